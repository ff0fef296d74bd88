-- What is written of children, one after the other.
use Rattle.std.proofs.Common.{◌≡◌, ℕ, ◌+◌, ◌<◌, List, [], ◌∷◌, ◌++◌, length, take, get_or, sym, ap, ◌∙◌, arith, append_assoc, append-nil, length-take-le, ◌⊎◌, inl, inr}
use Rattle.sg_kinds.proofs.Kids.{take_more}
use Rattle.sg_kinds.specs.Values.{Bytes, Value, row_of}
use Rattle.sg_kinds.specs.declared.spec.Spec.{Spec}
use Rattle.sg_saved_form.specs.Files.{comma, spelled_all, spelled_more}
use Rattle.sg_saved.specs.Spelling.{raws_of, spelled}

-- the spelling of values with a comma between them
abbrev pub spelled_values : Spec → List Value → Bytes
spelled_values spec vs = spelled_all (raws_of spec (row_of vs))

more-values : (spec : Spec) (vs : List Value) (v : Value) → spelled_more (raws_of spec (row_of (vs ++ v ∷ []))) ≡ spelled_more (raws_of spec (row_of vs)) ++ comma ∷ spelled spec v
more-values spec [] v = ap (λ x. comma ∷ x) (append-nil (spelled spec v))
more-values spec (w ∷ vs) v = ap (λ x. comma ∷ (spelled spec w ++ x)) (more-values spec vs v) ∙ ap (λ x. comma ∷ x) (sym (append_assoc (spelled spec w) (spelled_more (raws_of spec (row_of vs))) (comma ∷ spelled spec v)))

-- the first value, and the next one
first-value : (spec : Spec) (vs : List Value) (v : Value) → length vs ≡ 0 → spelled_values spec (vs ++ v ∷ []) ≡ spelled_values spec vs ++ spelled spec v
first-value spec [] v none = append-nil (spelled spec v)
first-value spec (w ∷ vs) v none = absurd (omega arith)

next-value : (spec : Spec) (vs : List Value) (v : Value) → 0 < length vs → spelled_values spec (vs ++ v ∷ []) ≡ (spelled_values spec vs ++ comma ∷ []) ++ spelled spec v
next-value spec [] v some = absurd (omega arith)
next-value spec (w ∷ vs) v some =
    ap (λ x. spelled spec w ++ x) (more-values spec vs v) ∙ sym (append_assoc (spelled spec w) (spelled_more (raws_of spec (row_of vs))) (comma ∷ spelled spec v))
    ∙ sym (append_assoc (spelled_values spec (w ∷ vs)) (comma ∷ []) (spelled spec v))

-- one more value behind so many that are written, and a comma before it where there are some
pub put-next : (spec : Spec) (out before sep : Bytes) (vs : List Value) (n : ℕ) (v : Value) → before ≡ out ++ spelled_values spec vs → length vs ≡ n → ((n ≡ 0) × (sep ≡ [])) ⊎ ((0 < n) × (sep ≡ comma ∷ []))
    → (before ++ sep) ++ spelled spec v ≡ out ++ spelled_values spec (vs ++ v ∷ [])
put-next spec out before sep vs n v written len how =
    (λ j. (written j ++ sep) ++ spelled spec v) ∙ ap (λ x. x ++ spelled spec v) (append_assoc out (spelled_values spec vs) sep) ∙ append_assoc out (spelled_values spec vs ++ sep) (spelled spec v) ∙ ap (λ x. out ++ x) (by how)
  where
    by : ((n ≡ 0) × (sep ≡ [])) ⊎ ((0 < n) × (sep ≡ comma ∷ [])) → (spelled_values spec vs ++ sep) ++ spelled spec v ≡ spelled_values spec (vs ++ v ∷ [])
    by (inl none) = ap (λ x. (spelled_values spec vs ++ x) ++ spelled spec v) none.1 ∙ ap (λ x. x ++ spelled spec v) (append-nil (spelled_values spec vs)) ∙ sym (first-value spec vs v (omega (arith, len, none.0)))
    by (inr some) = ap (λ x. (spelled_values spec vs ++ x) ++ spelled spec v) some.1 ∙ sym (next-value spec vs v (omega (arith, len, some.0)))

-- the same with the elements up to a place
pub put-more : (spec : Spec) (out before sep : Bytes) (vs : List Value) (i : ℕ) (v : Value) → i < length vs → v ≡ get_or vs i v → before ≡ out ++ spelled_values spec (take i vs) → ((i ≡ 0) × (sep ≡ [])) ⊎ ((0 < i) × (sep ≡ comma ∷ []))
    → (before ++ sep) ++ spelled spec v ≡ out ++ spelled_values spec (take (i + 1) vs)
put-more spec out before sep vs i v less is written how =
    put-next spec out before sep (take i vs) i v written (length-take-le i vs (omega arith)) how ∙ ap (λ x. out ++ spelled_values spec x) (sym (take_more vs i v less is))
