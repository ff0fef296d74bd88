-- Completing terms, as the code makes them.
use Rattle.std.specs.Prelude.{◌≡◌, ◌≢◌, refl, ℕ, zero, suc, ◌+◌, ◌-◌, ◌<◌, ◌≤◌, List, [], ◌∷◌, ◌++◌, length, drop, Option, Some, None, slice_get, option_map}
use Rattle.std.proofs.Common.{sym, ◌∙◌, ap, arith, get_or, append_assoc, rules}
use Rattle.sg_kinds.specs.Terms.{Term, Terms, NoTerm, AndTerm, terms_of, kids_of}
use Rattle.sg_kinds.specs.Specification.{Spec, Phylum}
use Rattle.sg_kinds.specs.Completing.{all_made, completed, completing_within}
use Rattle.sg_kinds.proofs.Kids.{drop_more}

-- with room left, a phylum's completing term goes by its shape
pub completed_at : (spec : Spec) (room p : ℕ) (x : Phylum) → room ≢ 0 → slice_get spec.phyla p ≡ Some x → completing_within spec room p ≡ completed spec (completing_within spec (room - 1)) p x.ops x.shape
completed_at spec zero p x n h = absurd (n refl)
completed_at spec (suc room) p x n h = let k : suc room - 1 ≡ room = omega arith in rw (h, k) refl

pub kids_of-terms_of : (ts : Terms) → kids_of (terms_of ts) ≡ ts
kids_of-terms_of NoTerm = refl
kids_of-terms_of (AndTerm t ts) = ap (AndTerm t) (kids_of-terms_of ts)

-- the terms behind those that are made
abbrev pub behind : List Term → Terms → Terms
behind done ts = kids_of (done ++ terms_of ts)

-- the terms that are made of the first i phyla go on to those of all
pub record IsMade (made : ℕ → Option Term) (ps : List ℕ) (done : List Term) (i : ℕ) : Type 0 where
  pub goes : option_map (behind done) (all_made made (drop i ps)) ≡ all_made made ps

option_map_same : (f : Terms → Terms) → ((ts : Terms) → f ts ≡ ts) → (o : Option Terms) → option_map f o ≡ o
option_map_same f h None = refl
option_map_same f h (Some ts) = ap Some (h ts)

pub made_first : (made : ℕ → Option Term) (ps : List ℕ) → IsMade made ps [] 0
made_first made ps = record { goes = option_map_same (behind []) kids_of-terms_of (all_made made ps) }

behind_more : (done : List Term) (t : Term) (o : Option Terms) → option_map (behind done) (option_map (AndTerm t) o) ≡ option_map (behind (done ++ t ∷ [])) o
behind_more done t None = refl
behind_more done t (Some ts) = ap (λ l. Some (kids_of l)) (sym (append_assoc done (t ∷ []) (terms_of ts)))

pub made_next : (made : ℕ → Option Term) (ps : List ℕ) (done : List Term) (i p : ℕ) (t : Term) → IsMade made ps done i → i < length ps → p ≡ get_or ps i p → made p ≡ Some t → IsMade made ps (done ++ t ∷ []) (i + 1)
made_next made ps done i p t is l e h = record { goes = sym step ∙ is.goes }
  where
    step : option_map (behind done) (all_made made (drop i ps)) ≡ option_map (behind (done ++ t ∷ [])) (all_made made (drop (i + 1) ps))
    step = rw (drop_more ps i p l e, h) (behind_more done t (all_made made (drop (i + 1) ps)))

pub made_not : (made : ℕ → Option Term) (ps : List ℕ) (done : List Term) (i p : ℕ) → IsMade made ps done i → i < length ps → p ≡ get_or ps i p → made p ≡ None → all_made made ps ≡ None
made_not made ps done i p is l e h = sym is.goes ∙ none
  where
    none : option_map (behind done) (all_made made (drop i ps)) ≡ None
    none = rw (drop_more ps i p l e, h) refl

pub drop_all : {A : Type 0} → (xs : List A) (i : ℕ) → length xs ≤ i → drop i xs ≡ []
drop_all [] zero h = refl
drop_all [] (suc i) h = refl
drop_all (x ∷ xs) zero h = absurd (omega (arith, h))
drop_all (x ∷ xs) (suc i) h = drop_all xs i (omega (arith, h))

pub made_last : (made : ℕ → Option Term) (ps : List ℕ) (done : List Term) (i : ℕ) → IsMade made ps done i → length ps ≤ i → all_made made ps ≡ Some (kids_of done)
made_last made ps done i is l = sym is.goes ∙ last
  where
    last : option_map (behind done) (all_made made (drop i ps)) ≡ Some (kids_of done)
    last = rw (drop_all ps i l) (ap (λ l. Some (kids_of l)) (search rules))
