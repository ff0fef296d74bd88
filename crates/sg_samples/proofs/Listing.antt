-- Lemmas on the list of the symbols that have no sample.
use Rattle.std.proofs.Common.{◌≡◌, ℕ, ◌+◌, ◌<◌, ◌⊎◌, inl, inr, List, [], ◌∷◌, ◌++◌, sym, subst, arith}
use Rattle.std.specs.Prelude.{All, AllPairs, Contains}
use Rattle.std.proofs.lemmas.Bool.{cases_eq}
use Rattle.std.proofs.lemmas.List.Elements.{All-nil, All-head, All-push, All-weaker, Contains-push, Contains-append_left}
use Rattle.std.proofs.lemmas.List.Quantifiers.{all_pairs_push}
use Rattle.sg_grammar.specs.Grammar.{Grammar}
use Rattle.sg_grammar.specs.Derives.{IsProductive}
use Rattle.sg_samples.specs.Samples.{AreBarren}
use Rattle.sg_samples.specs.Table.{Sample, sample_at, Has, IsTable}
use Rattle.sg_samples.specs.declared.table.Sample.TheVariants.{Unknown}
use Rattle.sg_samples.proofs.Known.{has_derives, lower}

-- those of the first n symbols
pub record IsListed (T : List Sample) (n : ℕ) (Xs : List ℕ) : Type 0 where
  pub rising : AllPairs (λ X Y. X < Y) Xs
  pub none : All (λ X. (X < n) × (sample_at T X ≡ Unknown)) Xs
  pub others : (X : ℕ) → X < n → Contains Xs X ⊎ Has T X

pub listed_none : (T : List Sample) → IsListed T 0 []
listed_none T = record {
  rising = λ i j d a b. absurd (omega (arith, b));
  none = All-nil (λ X. (X < 0) × (sample_at T X ≡ Unknown));
  others = λ X l. absurd (omega (arith, l));
}

-- those of one symbol more, where it has a sample, and where it has none
pub listed_same : (T : List Sample) (n : ℕ) (Xs : List ℕ) → IsListed T n Xs → Has T n → IsListed T (n + 1) Xs
listed_same T n Xs listed has = record {
  rising = listed.rising;
  none = All-weaker (λ X. (X < n) × (sample_at T X ≡ Unknown)) (λ X. (X < n + 1) × (sample_at T X ≡ Unknown)) (λ X h. (let l = h.0 in omega arith, h.1)) Xs listed.none;
  others = λ X l. elim (cases_eq X n) [ inl same ↦ inr (subst (Has T) (sym same) has) | inr apart ↦ listed.others X (omega (arith, l, apart)) ];
}

pub listed_more : (T : List Sample) (n : ℕ) (Xs : List ℕ) → IsListed T n Xs → sample_at T n ≡ Unknown → IsListed T (n + 1) (Xs ++ n ∷ [])
listed_more T n Xs listed none = record {
  rising = all_pairs_push (λ X Y. X < Y) Xs n listed.rising (λ k d l. (listed.none k d l).0);
  none = All-push (λ X. (X < n + 1) × (sample_at T X ≡ Unknown)) Xs n
      (All-weaker (λ X. (X < n) × (sample_at T X ≡ Unknown)) (λ X. (X < n + 1) × (sample_at T X ≡ Unknown)) (λ X h. (let l = h.0 in omega arith, h.1)) Xs listed.none)
      (omega arith, none);
  others = λ X l. elim (cases_eq X n) [
    | inl same ↦ inl (subst (Contains (Xs ++ n ∷ [])) (sym same) (Contains-push Xs n))
    | inr apart ↦ elim (listed.others X (omega (arith, l, apart))) [ inl in' ↦ inl (Contains-append_left Xs (n ∷ []) X in') | inr has ↦ inr has ]
  ];
}

-- by the table of a grammar they derive nothing, and all others derive some tokens
pub listed_barren : (g : Grammar) (T : List Sample) → IsTable g T → (Xs : List ℕ) → IsListed T g.symbols Xs → AreBarren g Xs
listed_barren g T table Xs listed = record {
  rising = listed.rising;
  derive_none = All-weaker (λ X. (X < g.symbols) × (sample_at T X ≡ Unknown)) (λ X. (X < g.symbols) × (IsProductive g X → ⊥))
      (λ X h. (h.0, λ d. All-head (Has T) X [] (lower g T table (X ∷ []) d.0 d.1 d.2 d.3).has h.1)) Xs listed.none;
  others = λ X l. elim (listed.others X l) [
    | inl in' ↦ inl in'
    | inr has ↦ let d = has_derives g T table.known X has in inr (d.0, d.1.0, d.1.1, d.1.2)
  ];
}
