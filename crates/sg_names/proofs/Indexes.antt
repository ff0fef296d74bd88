-- Indexes with one more entry.
use Rattle.std.proofs.Common.{◌≡◌, ℕ, Vec, bytes_eq, Bor, Bool, true, false, cond, List, [], ◌∷◌, ◌++◌, Option, Some, None, if◌then◌else◌, refl, sym, ap, ◌∙◌}
use Rattle.std.specs.Map.{lookup}
use Rattle.std.specs.Prelude.{is_none, option_copied}
use Rattle.indexmap.specs.IndexMap.{insert_entry}
use Rattle.indexmap.proofs.MapLemmas.{absent_from_lookup, insert_entry-absent}
use Rattle.sg_ast.specs.FirstFault.{or_else}

or_else_if : {X : Type 0} (b : Bool) (x : X) (o p : Option X) → cond b (Some x) (or_else o p) ≡ or_else (cond b (Some x) o) p
or_else_if true x o p = refl
or_else_if false x o p = refl

pub lookup_push : {K X : Type 0} (test : K → Bool) (es : List (K × X)) (k : K) (x : X) → lookup test (es ++ (k, x) ∷ []) ≡ or_else (lookup test es) (if test k then Some x else None)
lookup_push test [] k x = refl
lookup_push test (e ∷ es) k x = ap (λ o. cond (test e.0) (Some e.1) o) (lookup_push test es k x) ∙ or_else_if (test e.0) e.1 (lookup test es) (if test k then Some x else None)

-- a name that is new is put last
pub put_new : {A X : Type 0} (es after : List (Vec ℕ A × X)) (key : Vec ℕ A) (name : List ℕ) (x : X) → key.items ≡ name
    → after ≡ insert_entry (λ a b. bytes_eq a.items b.items) es key x → lookup (λ k. bytes_eq name k.items) es ≡ None
    → (n : List ℕ) → lookup (λ k. bytes_eq n k.items) after ≡ or_else (lookup (λ k. bytes_eq n k.items) es) (if bytes_eq n name then Some x else None)
put_new {A} {X} es after key name x is put absent n =
    let gone : lookup (λ (k : Vec ℕ A). bytes_eq key.items k.items) es ≡ None = rw is absent in
    let last : after ≡ es ++ (key, x) ∷ [] = put ∙ insert_entry-absent (λ (a b : Vec ℕ A). bytes_eq a.items b.items) key x es (absent_from_lookup (λ (k : Vec ℕ A). bytes_eq key.items k.items) es gone) in
    ap (λ l. lookup (λ (k : Vec ℕ A). bytes_eq n k.items) l) last ∙ lookup_push (λ (k : Vec ℕ A). bytes_eq n k.items) es key x ∙ ap (λ (m : List ℕ). or_else (lookup (λ (k : Vec ℕ A). bytes_eq n k.items) es) (if bytes_eq n m then Some x else None)) is

pub nothing_copied : {V : Type 0} (o : Option (Bor V)) (p : Option V) → option_copied o ≡ p → is_none o ≡ true → p ≡ None
nothing_copied None p h n = sym h
nothing_copied (Some x) p h n = cc
