-- Parts that are equal by their order are the same.
use Rattle.std.proofs.Common.{◌≡◌, ℕ, Bool, true, false, cond, ◌&&◌, ◌||◌, List, [], ◌∷◌, nat_eq, nat_lt, refl, ap, ◌∙◌, arith}
use Rattle.std.specs.List.{list_any}
use Rattle.std.specs.BTreeMap.{is_at}
use Rattle.std.specs.Ordering.{nat_cmp, is_eq, ordering_then}
use Rattle.std.specs.declared.cmp.Ordering.{Ordering}
use Rattle.std.specs.declared.cmp.Ordering.TheVariants.{Less, Equal, Greater}
use Rattle.std.proofs.lemmas.Bool.Decides.{nat_tests}
use Rattle.sg_useless.specs.Parts.{Part, is_same, is_among}
use Rattle.sg_useless.specs.declared.part.Part.TheVariants.{Function, Attribute, Local, Phylum, Nonterminal, Schemes, Entry, Literal}
use Rattle.sg_useless.specs.contracts.part.PartOrd.TheImpl as order

both_equal : (o p : Ordering) → is_eq (ordering_then o p) ≡ (is_eq o && is_eq p)
both_equal Less p = refl
both_equal Equal p = refl
both_equal Greater p = refl

same_number : (m n : ℕ) → is_eq (nat_cmp m n) ≡ nat_eq m n
same_number m n = by (nat_lt m n) (nat_eq m n) refl refl
  where
    by : (l e : Bool) → nat_lt m n ≡ l → nat_eq m n ≡ e → is_eq (cond l Less (cond e Equal Greater)) ≡ e
    by true true h k = grind (arith, nat_tests)
    by true false h k = refl
    by false true h k = refl
    by false false h k = refl

same_numbers : (a b m n : ℕ) → is_eq (ordering_then (nat_cmp a m) (nat_cmp b n)) ≡ (nat_eq a m && nat_eq b n)
same_numbers a b m n =
    both_equal (nat_cmp a m) (nat_cmp b n) ∙ ap (λ t. t && is_eq (nat_cmp b n)) (same_number a m) ∙ ap (λ t. nat_eq a m && t) (same_number b n)

same_parts : (a b : Part) → is_at (order.ghosts.cmp a) b ≡ is_same a b
same_parts (Function f) (Function g) = same_number f g
same_parts (Attribute p s) (Attribute q r) = same_numbers p s q r
same_parts (Local p s) (Local q r) = same_numbers p s q r
same_parts (Phylum p) (Phylum q) = same_number p q
same_parts (Nonterminal m) (Nonterminal n) = same_number m n
same_parts (Schemes p) (Schemes q) = same_number p q
same_parts (Entry p) (Entry q) = same_number p q
same_parts (Literal l k) (Literal m n) = same_numbers l k m n
same_parts a b = refl

pub all_same : (x : Part) (parts : List Part) → list_any (λ y. is_at (order.ghosts.cmp y) x) parts ≡ is_among parts x
all_same x [] = refl
all_same x (y ∷ ys) = (λ i. same_parts y x i || all_same x ys i)
