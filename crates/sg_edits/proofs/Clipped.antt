-- What was copied before a list.
use Rattle.std.specs.Prelude.{◌≡◌, refl, ℕ, Bool, true, false, ◌&&◌, cond, nat_eq, List, [], ◌∷◌, length, ◌≤◌}
use Rattle.std.proofs.Common.{sym, ap, ◌∙◌, subst, arith, get_or}
use Rattle.std.proofs.lemmas.Bool.{false≢true}
use Rattle.sg_kinds.proofs.Elementary.{eq_is}
use Rattle.sg_kinds.specs.Fits.{Fits}
use Rattle.sg_kinds.specs.Sound.{HasShapes, is_pair}
use Rattle.sg_kinds.specs.Terms.{Term, Node, NoTerm, AndTerm, kids_of}
use Rattle.sg_kinds.specs.declared.spec.Spec.{Spec}
use Rattle.sg_select.specs.Paths.{is_list_node}
use Rattle.sg_edits.specs.Edits.{before, elements_in, is_run, joined, paired, phylum_in, suits}
use Rattle.sg_edits.specs.declared.clip.Clip.{Clip}
use Rattle.sg_edits.proofs.Placed.{fits_phylum}
use Rattle.sg_edits.proofs.Shaped.{joined_fits, paired_fits}

-- two tests at once
pub both_hold : (a b : Bool) → (a && b) ≡ true → (a ≡ true) × (b ≡ true)
both_hold true b h = (refl, h)
both_hold false b h = absurd (false≢true h)

-- a list of so few terms, or of another operator, has no element
pub joined_short : (spec : Spec) (op n : ℕ) (elided : Bool) (ts : List Term) (r : Term) → length ts ≤ 1 → joined spec (Node op n elided (kids_of ts)) r ≡ r
joined_short spec op n elided [] r short = refl
joined_short spec op n elided (x ∷ []) r short = refl
joined_short spec op n elided (x ∷ y ∷ ts) r short = absurd (omega (arith, short))

pub joined_other : (spec : Spec) (op n : ℕ) (elided : Bool) (ts : List Term) (r : Term) → is_pair spec op ≡ false → joined spec (Node op n elided (kids_of ts)) r ≡ r
joined_other spec op n elided [] r is = refl
joined_other spec op n elided (x ∷ []) r is = refl
joined_other spec op n elided (x ∷ y ∷ ts) r is = ap (λ b. cond b (Node op 0 false (AndTerm x (AndTerm (joined spec y r) NoTerm))) r) is

pub joined_first : (spec : Spec) (op n : ℕ) (elided : Bool) (ts : List Term) (r d e : Term) → 2 ≤ length ts → is_pair spec op ≡ true
    → Node op 0 false (AndTerm (get_or ts 0 d) (AndTerm (joined spec (get_or ts 1 e) r) NoTerm)) ≡ joined spec (Node op n elided (kids_of ts)) r
joined_first spec op n elided [] r d e long is = absurd (omega (arith, long))
joined_first spec op n elided (x ∷ []) r d e long is = absurd (omega (arith, long))
joined_first spec op n elided (x ∷ y ∷ ts) r d e long is = sym (ap (λ b. cond b (Node op 0 false (AndTerm x (AndTerm (joined spec y r) NoTerm))) r) is)

-- what suits a list fits before one of it
pub before_fits : (spec : Spec) → HasShapes spec → (x r : Term) (clip : Clip) (p : ℕ) → Fits spec x p → is_list_node spec x ≡ true → Fits spec clip.term clip.phylum
    → suits spec clip x ≡ true → Fits spec r p → Fits spec (before spec clip x r) p
before_fits spec shapes x r clip p f is copied suit rest = by (is_run clip) suit
  where
    by : (b : Bool) → nat_eq clip.phylum (cond b (phylum_in spec x) (elements_in spec x)) ≡ true → Fits spec (cond b (joined spec clip.term r) (paired x clip.term r)) p
    by true h = joined_fits spec shapes clip.term r p (subst (Fits spec clip.term) (eq_is clip.phylum (phylum_in spec x) h ∙ fits_phylum spec x p f) copied) rest
    by false h = paired_fits spec shapes x clip.term r p f is (subst (Fits spec clip.term) (eq_is clip.phylum (elements_in spec x) h) copied) rest
