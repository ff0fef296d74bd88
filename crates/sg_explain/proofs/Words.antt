-- Words, by their bytes.
use Rattle.std.proofs.Common.{◌≡◌, ◌≤◌, ◌<◌, ◌∙◌, Bool, true, List, [], ◌∷◌, length, map, get_or, arith, sym}
use Rattle.std.specs.Prelude.{bytes_eq}
use Rattle.sg_kinds.specs.Values.{Bytes}
use Rattle.sg_kinds.proofs.Elementary.{bytes_is}

-- two words, the second of which is this one
pub two_words : {X : Type 0} (f : X → Bytes) (xs : List X) (a b : X) (file word plan : Bytes) (same : Bool) → 2 ≤ length xs → length xs < 3 → a ≡ get_or xs 0 a → b ≡ get_or xs 1 b
    → file ≡ f a → word ≡ f b → same ≡ bytes_eq word plan → same ≡ true → map f xs ≡ file ∷ plan ∷ []
two_words f [] a b file word plan same some few first second is said equal holds = absurd (omega (arith, some))
two_words f (x ∷ []) a b file word plan same some few first second is said equal holds = absurd (omega (arith, some))
two_words f (x ∷ y ∷ []) a b file word plan same some few first second is said equal holds = let e : word ≡ plan = bytes_is word plan (sym equal ∙ holds) in cc
two_words f (x ∷ y ∷ z ∷ xs) a b file word plan same some few first second is said equal holds = absurd (omega (arith, few))
