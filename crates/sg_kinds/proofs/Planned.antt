-- Plain terms, as the code makes them.
use Rattle.std.specs.Prelude.{◌≡◌, refl, ℕ, zero, suc, ◌+◌, ◌<◌, ◌≤◌, List, [], ◌∷◌, ◌++◌, length, drop, slice_get, unwrap_or}
use Rattle.std.proofs.Common.{sym, ◌∙◌, ap, arith, get_or, append_assoc, rules}
use Rattle.sg_kinds.specs.Values.{Value, Values, AndValue, row_of}
use Rattle.sg_kinds.specs.Terms.{Term, AndTerm, terms_of, kids_of}
use Rattle.sg_kinds.specs.Specification.{Spec}
use Rattle.sg_kinds.specs.Plain.{plain, plain_all}
use Rattle.sg_kinds.proofs.Kids.{drop_more}
use Rattle.sg_kinds.proofs.Completed.{behind, kids_of-terms_of, drop_all}

-- the first i terms go on to those of all children
pub record ArePlain (spec : Spec) (vs : List Value) (args : List ℕ) (done : List Term) (i : ℕ) : Type 0 where
  pub goes : behind done (plain_all spec (row_of (drop i vs)) (drop i args)) ≡ plain_all spec (row_of vs) args

pub plain_first : (spec : Spec) (vs : List Value) (args : List ℕ) → ArePlain spec vs args [] 0
plain_first spec vs args = record { goes = kids_of-terms_of (plain_all spec (row_of vs) args) }

one_plain : (spec : Spec) (v : Value) (vs : Values) (args : List ℕ) → plain_all spec (AndValue v vs) args ≡ AndTerm (plain spec v (unwrap_or (slice_get args 0) 0)) (plain_all spec vs (drop 1 args))
one_plain spec v vs [] = refl
one_plain spec v vs (p ∷ args) = refl

first_of_rest : (args : List ℕ) (i : ℕ) → slice_get (drop i args) 0 ≡ slice_get args i
first_of_rest [] zero = refl
first_of_rest [] (suc i) = refl
first_of_rest (p ∷ args) zero = refl
first_of_rest (p ∷ args) (suc i) = first_of_rest args i

rest_of_rest : (args : List ℕ) (i : ℕ) → drop 1 (drop i args) ≡ drop (i + 1) args
rest_of_rest [] zero = refl
rest_of_rest [] (suc i) = let k : suc i + 1 ≡ suc (i + 1) = omega arith in rw k refl
rest_of_rest (p ∷ args) zero = refl
rest_of_rest (p ∷ args) (suc i) = let k : suc i + 1 ≡ suc (i + 1) = omega arith in rw k (rest_of_rest args i)

pub plain_next : (spec : Spec) (vs : List Value) (args : List ℕ) (done : List Term) (i p : ℕ) (v : Value) (t : Term) → ArePlain spec vs args done i → i < length vs → v ≡ get_or vs i v
    → p ≡ unwrap_or (slice_get args i) 0 → t ≡ plain spec v p → ArePlain spec vs args (done ++ t ∷ []) (i + 1)
plain_next spec vs args done i p v t are l e at h = record { goes = sym step ∙ are.goes }
  where
    here : plain_all spec (row_of (drop i vs)) (drop i args) ≡ AndTerm t (plain_all spec (row_of (drop (i + 1) vs)) (drop (i + 1) args))
    here = ap (λ l. plain_all spec (row_of l) (drop i args)) (drop_more vs i v l e) ∙ one_plain spec v (row_of (drop (i + 1) vs)) (drop i args)
        ∙ ap (λ o. AndTerm (plain spec v (unwrap_or o 0)) (plain_all spec (row_of (drop (i + 1) vs)) (drop 1 (drop i args)))) (first_of_rest args i)
        ∙ ap (λ l. AndTerm (plain spec v (unwrap_or (slice_get args i) 0)) (plain_all spec (row_of (drop (i + 1) vs)) l)) (rest_of_rest args i)
        ∙ ap (λ x. AndTerm x (plain_all spec (row_of (drop (i + 1) vs)) (drop (i + 1) args))) (ap (plain spec v) (sym at) ∙ sym h)

    step : behind done (plain_all spec (row_of (drop i vs)) (drop i args)) ≡ behind (done ++ t ∷ []) (plain_all spec (row_of (drop (i + 1) vs)) (drop (i + 1) args))
    step = ap (behind done) here ∙ ap kids_of (sym (append_assoc done (t ∷ []) (terms_of (plain_all spec (row_of (drop (i + 1) vs)) (drop (i + 1) args)))))

pub plain_last : (spec : Spec) (vs : List Value) (args : List ℕ) (done : List Term) (i : ℕ) → ArePlain spec vs args done i → length vs ≤ i → kids_of done ≡ plain_all spec (row_of vs) args
plain_last spec vs args done i are l = sym last ∙ are.goes
  where
    last : behind done (plain_all spec (row_of (drop i vs)) (drop i args)) ≡ kids_of done
    last = rw (drop_all vs i l) (ap kids_of (search rules))
