use Rattle.std.proofs.Common.{◌≡◌, ℕ, Bool, true, false, cond, List, nat_eq, nat_lt, refl, ap, ◌∙◌, arith}
use Rattle.std.specs.BTreeMap.{is_at}
use Rattle.std.specs.Ordering.{nat_cmp, is_eq}
use Rattle.std.specs.declared.cmp.Ordering.TheVariants.{Less, Equal, Greater}
use Rattle.std.proofs.lemmas.Bool.Decides.{nat_tests}
use Rattle.sg_ast.specs.FirstFault.{first_repeat}
use Rattle.sg_record.proofs.entries.second.Goals as goal

same_number : (m n : ℕ) → is_eq (nat_cmp m n) ≡ nat_eq m n
same_number m n = by (nat_lt m n) (nat_eq m n) refl refl
  where
    by : (l e : Bool) → nat_lt m n ≡ l → nat_eq m n ≡ e → is_eq (cond l Less (cond e Equal Greater)) ≡ e
    by true true h k = grind (arith, nat_tests)
    by true false h k = refl
    by false true h k = refl
    by false false h k = refl

repeats : (xs : List ℕ) → first_repeat (λ a b. is_at (nat_cmp a) b) xs ≡ first_repeat nat_eq xs
repeats xs = ap (λ (same : ℕ → ℕ → Bool). first_repeat same xs) (λ i a b. same_number a b i)

pub returns : goal.returns
returns c = c.in_ok-place.ensures ∙ repeats c.deref.result.now ∙ ap (first_repeat nat_eq) (c.deref.ensures.value ∙ c.in_ok-numbers.ensures)
