-- Lemmas on strings with samples in place of their symbols.
use Rattle.std.proofs.Common.{◌≡◌, ℕ, suc, ◌+◌, ◌<◌, ◌≤◌, min, max, inl, inr, List, [], ◌∷◌, ◌++◌, length, refl, sym, ap, subst, ◌∙◌, arith, length-append}
use Rattle.std.specs.Prelude.{All}
use Rattle.std.proofs.lemmas.List.Elements.{All-nil, All-head, All-append}
use Rattle.std.proofs.lemmas.List.Sums.{sum_by_push}
use Rattle.sg_grammar.specs.Grammar.{Grammar}
use Rattle.sg_grammar.specs.Derives.{Token}
use Rattle.sg_samples.specs.Expands.{Expands, AreTerminals}
use Rattle.sg_samples.specs.Expands.Expands.{nothing, stays}
use Rattle.sg_samples.specs.Table.{Sample, sample_at, Has, size, size_at, total, IsKnown, AreKnown, PutsSample, PutsItself, Puts, IsExpanded, IsMost, IsTable}
use Rattle.sg_samples.specs.declared.table.Sample.TheVariants.{Unknown, Long, Short}
use Rattle.sg_samples.specs.declared.table.TheConstants.{MOST}
use Rattle.sg_samples.specs.Samples.{DerivesTokens, IsSample}
use Rattle.sg_samples.proofs.Known.{lower}
use Rattle.sg_samples.proofs.Derived.{all_parts, expand_both}

module _ (g : Grammar) (T : List Sample) (known : AreKnown g T) (start : ℕ) (few : start ≤ MOST) (Xs : List ℕ) (X : ℕ) (out : List ℕ) (spare : ℕ) (done : IsExpanded g T start Xs out spare) (next : List ℕ) (left : ℕ) where
  -- the whole of the string so far, with the symbol
  total_more : total T (Xs ++ X ∷ []) ≡ total T Xs + size_at T X
  total_more = sum_by_push (size_at T) Xs X

  sample_step : PutsSample T X out spare next left → IsExpanded g T start (Xs ++ X ∷ []) next left
  sample_step puts =
      let k = subst (IsKnown g (X ∷ [])) puts.of_symbol (known.each X) in
      let size-is : size_at T X ≡ length puts.string = ap size puts.of_symbol in
      let long : length next ≡ length out + length puts.string = ap length puts.behind ∙ length-append out puts.string in
      record {
        expands = subst (Expands g (Xs ++ X ∷ [])) (sym puts.behind) (expand_both g Xs out (X ∷ []) puts.string done.expands k.0);
        few = let a = done.few in let b = puts.fits in let c = puts.less in omega (arith, length-append Xs (X ∷ []));
        exact = λ low. let parts = all_parts (λ Y. Y < g.terminals) out puts.string (subst (AreTerminals g) puts.behind low) in
            let e = done.exact parts.0 in omega (arith, total_more);
        whole = λ has le. let parts = all_parts (Has T) Xs (X ∷ []) has in
            let w = done.whole parts.0 (omega (arith, total_more)) in
            (subst (AreTerminals g) (sym puts.behind) (All-append (λ Y. Y < g.terminals) out puts.string w.0 k.1), let a = w.1 in let b = puts.fits in let c = puts.less in omega (arith, total_more));
      }

  -- a symbol with a sample that is not too long is not put as it is
  not_short : (s : Sample) → sample_at T X ≡ s → ((string : List ℕ) → s ≡ Short string → suc spare < length string) → (s ≡ Unknown → ⊥) → size s ≤ spare → spare ≤ MOST → ⊥
  not_short Unknown is none has le most = has refl
  not_short Long is none has le most = omega arith
  not_short (Short v) is none has le most = let l = none v refl in omega arith

  itself_step : spare ≤ MOST → PutsItself T X out spare next left → IsExpanded g T start (Xs ++ X ∷ []) next left
  itself_step most puts =
      let long : length next ≡ length out + 1 = ap length puts.behind ∙ length-append out (X ∷ []) in
      let same = puts.same in
      record {
        expands = subst (Expands g (Xs ++ X ∷ [])) (sym puts.behind) (expand_both g Xs out (X ∷ []) (X ∷ []) done.expands (stays X [] [] nothing));
        few = let a = done.few in omega (arith, length-append Xs (X ∷ []));
        exact = λ low. let parts = all_parts (λ Y. Y < g.terminals) out (X ∷ []) (subst (AreTerminals g) puts.behind low) in
            let is = known.terminals X (All-head (λ Y. Y < g.terminals) X [] parts.1) in
            let l = puts.none_fits (X ∷ []) is in absurd (omega arith);
        whole = λ has le. let parts = all_parts (Has T) Xs (X ∷ []) has in
            let w = done.whole parts.0 (omega (arith, total_more)) in
            let a = w.1 in
            let fits : size_at T X ≤ spare = omega (arith, total_more) in
            absurd (not_short (sample_at T X) refl (λ v e. puts.none_fits v e) (All-head (Has T) X [] parts.1) fits most);
      }

  pub step : spare ≤ MOST → Puts T X out spare next left → IsExpanded g T start (Xs ++ X ∷ []) next left
  step most (inl puts) = sample_step puts
  step most (inr puts) = itself_step most puts

pub no_step : (g : Grammar) (T : List Sample) (start : ℕ) → IsExpanded g T start [] [] start
no_step g T start = record {
  expands = nothing;
  few = omega arith;
  exact = λ low. refl;
  whole = λ has le. (All-nil (λ Y. Y < g.terminals), omega arith);
}

pub left_few : (T : List Sample) (X : ℕ) (out : List ℕ) (spare : ℕ) (next : List ℕ) (left : ℕ) → Puts T X out spare next left → spare ≤ MOST → left ≤ MOST
left_few T X out spare next left (inl puts) few = let a = puts.less in let b = puts.fits in omega arith
left_few T X out spare next left (inr puts) few = let a = puts.same in omega arith

-- what is known of a string whose symbols have samples that are not longer together
pub made_short : (g : Grammar) (T : List Sample) → (Xs Ys : List ℕ) (size left : ℕ) → All (Has T) Xs → size ≡ min (suc MOST) (total T Xs) → size ≤ MOST → IsExpanded g T MOST Xs Ys left → IsKnown g Xs (Short Ys)
made_short g T Xs Ys size left has is few done =
    let w = done.whole has (omega arith) in
    let e = done.exact w.0 in
    (done.expands, w.0, omega arith)

-- what a string becomes is its sample
pub sampled : (g : Grammar) (T : List Sample) (Xs : List ℕ) (most : ℕ) (Ys : List ℕ) → IsTable g T → IsMost T Xs most → ((h : Grammar) → AreKnown h T → (left : ℕ) × IsExpanded h T most Xs Ys left) → IsSample g Xs Ys
sampled g T Xs most Ys table is expanded = record {
  expands = done.expands;
  few = few is;
  whole = whole is;
  shortest = λ low ts d. let e = done.exact low in let l = (lower g T table Xs ts d.0 d.1 d.2).least in omega arith;
}
  where
    left : ℕ
    left = (expanded g table.known).0

    done : IsExpanded g T most Xs Ys left
    done = (expanded g table.known).1

    few : IsMost T Xs most → length Ys ≤ max MOST (length Xs)
    few (inl all) = let w = done.whole all.1 (let a = all.0 in let b = all.2 in omega arith) in let e = done.exact w.0 in let b = all.2 in omega arith
    few (inr part) = let a = part.0 in let f = done.few in omega arith

    whole : IsMost T Xs most → (ts : List Token) → DerivesTokens g Xs ts → length ts ≤ MOST → AreTerminals g Ys
    whole (inl all) ts d short = (done.whole all.1 (let a = all.0 in let b = all.2 in omega arith)).0
    whole (inr part) ts d short = let l = lower g T table Xs ts d.0 d.1 d.2 in absurd (part.1 l.has (let b = l.least in omega arith))
