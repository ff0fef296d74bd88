-- What the code has still to read, and what a rule of it gives.
use Rattle.std.specs.Prelude.{◌≡◌, ◌≢◌, List, Option, Some, None, Result, Ok, Err}
use Rattle.sg_ast.specs.Readers.{Outcome, Reader, ◌<$>◌}
use Rattle.sg_ast.specs.Spelling.{Mark}
use Rattle.sg_ast.specs.Spells.{marks_from}
use Rattle.sg_cursor.specs.declared.refusal.Refusal.{Refusal}
use Rattle.sg_cursor.specs.declared.refusal.Refusal.TheVariants as refusal
use Rattle.sg_cursor.specs.declared.tokens.Tokens.{Tokens}

-- the marks that are left
abbrev pub left_of : Tokens → List Mark
left_of t = marks_from t.bytes.now t.number t.left.now

-- the result, seen by view, is what reading gives, unless memory runs out
abbrev pub Gives : {A B : Type 0} → (A → B) → Option B → Result A Refusal → Type 0
Gives view outcome (Ok a) = outcome ≡ Some (view a)
Gives view outcome (Err e) = e ≢ refusal.NoMemory → outcome ≡ None

-- the result, seen by view, and what is left are what reading gives, unless memory runs out
abbrev pub Reads : {A B : Type 0} → (A → B) → Outcome B → Result A Refusal → List Mark → Type 0
Reads view outcome (Ok a) rest = outcome ≡ Some (view a, rest)
Reads view outcome (Err e) rest = e ≢ refusal.NoMemory → outcome ≡ None

-- a reader of what f makes of what is read
abbrev pub made : {A B : Type 0} → (A → B) → Reader A → Reader B
made f p = f <$> p
