-- What the reading of each declaration says of a result.
use Rattle.std.proofs.Common.{◌≡◌, ℕ, List, Result, Ok, Err, refl, sym, ◌∙◌, subst}
use Rattle.std.specs.Prelude.{IfOk}
use Rattle.sg_ast.specs.Declarations.{Decl}
use Rattle.sg_ast.specs.Spelling.{Mark}
use Rattle.sg_ast.specs.Spells.{EachSpells}
use Rattle.sg_reader.specs.declared.fault.ReadFault.{ReadFault}
use Rattle.sg_reader.specs.declared.fault.ReadFault.TheVariants.{Syntax, NoMemory}
use Rattle.sg_reader.specs.EachRead.{read_from, Answers, IsOf, IsFirstUnread}
use Rattle.sg_reader.proofs.Found.{all_spelled, all_read, first_unread}

pub found_by : {A : Type 0} (view : A → List Decl) (mss : List (List Mark)) (r : Result A ReadFault) → Answers view (read_from 0 mss) r → IfOk r (λ a. EachSpells mss (view a))
found_by view mss (Ok a) h = all_spelled 0 mss (view a) h
found_by view mss (Err e) h = tt

ok_same : {A E : Type 0} {a b : A} → ◌≡◌ {A = Result A E} (Ok a) (Ok b) → a ≡ b
ok_same e = cc

not_both : {A E : Type 0} (r : Result A E) (a : A) (e : E) → r ≡ Ok a → r ≡ Err e → ⊥
not_both r a e ok err = let both : Ok a ≡ Err e = sym ok ∙ err in cc

pub only_by : {A : Type 0} (view : A → List Decl) (mss : List (List Mark)) (r : Result A ReadFault) → Answers view (read_from 0 mss) r
    → (ds : List Decl) → EachSpells mss ds → IsOf view ds r
only_by view mss (Ok a) h ds all = ok_same (sym h ∙ all_read 0 mss ds all)
only_by view mss (Err (Syntax number line)) h ds all = absurd (not_both (read_from 0 mss) ds (number, line) (all_read 0 mss ds all) h)
only_by view mss (Err NoMemory) h ds all = refl

pub first_by : {A : Type 0} (view : A → List Decl) (mss : List (List Mark)) (r : Result A ReadFault) → Answers view (read_from 0 mss) r
    → (number line : ℕ) → r ≡ Err (Syntax number line) → IsFirstUnread mss number line
first_by view mss r h number line e =
    let P : Result _ ReadFault → Type 0 = λ r. Answers view (read_from 0 mss) r in first_unread mss number line (subst P e h)
