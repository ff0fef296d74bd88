-- The session for which what is kept stands.
use Rattle.std.specs.Prelude.{◌≡◌, refl, ℕ, ◌+◌, ◌<◌, cond, not, nat_lt, List, [], ◌∷◌, ◌++◌, map, length, position, bytes_eq, slice_get, slice_set, Option, None, Some, option_map, option_and_then}
use Rattle.std.specs.List.{position_or_len}
use Rattle.std.proofs.Common.{sym, ap, length-set}
use Rattle.std.proofs.lemmas.List.{get_or-set_same, length-map}
use Rattle.std.proofs.lemmas.Option.{slice_get-map, slice_get_read}
use Rattle.sg_kinds.specs.Values.{Bytes}
use Rattle.sg_editor.specs.declared.desk.Named.{Named}
use Rattle.sg_editor.specs.Editing.{Kept, told, session_in, current_in}
use Rattle.sg_editor.specs.Session.{current_of, has_name}

-- the current buffer
pub current_told : (k : Kept) → current_of (session_in k) ≡ option_map told (current_in k)
current_told k = by k.current
  where
    by : (o : Option ℕ) → option_and_then (slice_get (map told k.buffers)) o ≡ option_map told (option_and_then (slice_get k.buffers) o)
    by None = refl
    by (Some i) = slice_get-map told k.buffers i

-- the place of the buffer of a name
before_named : (name : Bytes) (bs : List Named) → position_or_len (has_name name) (map told bs) ≡ position_or_len (λ (b : Named). bytes_eq name b.name) bs
before_named name [] = refl
before_named name (b ∷ bs) = ap (λ (n : ℕ). cond (not (bytes_eq name b.name)) (1 + n) 0) (before_named name bs)

pub named_told : (name : Bytes) (bs : List Named) → position (has_name name) (map told bs) ≡ position (λ (b : Named). bytes_eq name b.name) bs
named_told name bs = λ i. cond (nat_lt (before_named name bs i) (length-map bs told i)) (Some (before_named name bs i)) None

-- what was written at a place is there
pub written_there : {X : Type 0} (xs : List X) (i : ℕ) (x : X) → i < length xs → slice_get (slice_set xs i x) i ≡ Some x
written_there xs i x low = slice_get_read (slice_set xs i x) (length xs) i x (sym (length-set xs i x)) low (sym (get_or-set_same xs i x x low))

-- what was put last is there
pub last_there : {X : Type 0} (xs : List X) (x : X) → slice_get (xs ++ x ∷ []) (length xs) ≡ Some x
last_there [] x = refl
last_there (y ∷ xs) x = last_there xs x
