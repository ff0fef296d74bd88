-- Lemmas on rows that flow along links.
use Rattle.std.proofs.Common.{◌≡◌, ℕ, ◌<◌, ◌⊎◌, inl, inr, List, [], ◌∷◌, Bool, true, false, length, get_or, refl, sym, ◌∙◌, subst, arith}
use Rattle.std.specs.Bool.{OnTrue, OnFalse}
use Rattle.std.proofs.lemmas.Bool.{cases_lt, cases_eq}
use Rattle.sg_sets.specs.Flags.{IsFresh, HasPassed, AreFlagged, Flows}
use Rattle.sg_sets.specs.Members.{has}
use Rattle.sg_sets.specs.Paths.{Leads, Reaches, Linked}
use Rattle.sg_sets.specs.Rows.{Table, Holds, all_missing, SameShape, IsSettled}
use Rattle.std.proofs.lemmas.List.{get_or_default}
use Rattle.std.proofs.lemmas.List.Elements.{Contains-get_or}
use Rattle.sg_sets.proofs.OptionLemmas.{OnFalse-weaker}
use Rattle.sg_sets.proofs.PathsLemmas.{Reaches-step, Reaches-then}

-- the numbers of the rows have come along links
abbrev pub IsSound : List (ℕ × ℕ) → List (List Bool) → List (List Bool) → Type 0
IsSound links start now = (x y : ℕ) → Holds now x y → (s : ℕ) × Holds start s y × Reaches (Linked links) s x

pub Holds-reaches : (links : List (ℕ × ℕ)) (rows : List (List Bool)) → IsSettled links rows → (s x y : ℕ) → Reaches (Linked links) s x → Holds rows s y → Holds rows x y
Holds-reaches links rows settled s x y (inl same) h = subst (λ v. Holds rows v y) same h
Holds-reaches links rows settled s x y (inr (via, path)) h = along s via path h
  where
    along : (s : ℕ) (via : List ℕ) → Leads (Linked links) s via x → Holds rows s y → Holds rows x y
    along s [] path h = settled s x y path h
    along s (v ∷ via) path h = along v via path.1 (settled s v y path.0 h)

sound-then : (links : List (ℕ × ℕ)) (start now next : List (List Bool)) → IsSound links start now → IsSound links now next → IsSound links start next
sound-then links start now next f g x y h =
    let last = g x y h in
    let first = f last.0 y last.1 in
    (first.0, first.1, Reaches-then (Linked links) first.0 last.0 x first.2 last.2)

pub flows-none : (links : List (ℕ × ℕ)) (start : Table) → Flows links start start
flows-none links start = record { shape = record { width = refl; count = refl }; sound = λ x y h. (x, h, inl refl); keeps = λ x y h. h }

pub flows-then : (links : List (ℕ × ℕ)) (start now next : Table) → Flows links start now → Flows links now next → Flows links start next
flows-then links start now next f g = record {
  shape = record { width = g.shape.width ∙ f.shape.width; count = g.shape.count ∙ f.shape.count };
  sound = sound-then links start.rows now.rows next.rows f.sound g.sound;
  keeps = λ x y h. g.keeps x y (f.keeps x y h);
}

-- the ends of link k
abbrev from_at : List (ℕ × ℕ) → ℕ → ℕ
from_at links k = (get_or links k (0, 0)).0

abbrev to_at : List (ℕ × ℕ) → ℕ → ℕ
to_at links k = (get_or links k (0, 0)).1

abbrev PassedAt : List (ℕ × ℕ) → List (List Bool) → ℕ → Type 0
PassedAt links rows k = HasPassed rows (from_at links k) (to_at links k)

-- how far a round along the links has come, of which these were taken
pub record Flowed (links : List (ℕ × ℕ)) (start now : Table) (was fresh : List Bool) (Taken : ℕ → Type 0) (grown : Bool) : Type 0 where
  pub flows : Flows links start now
  pub grows : OnTrue grown (all_missing now.rows < all_missing start.rows)
  pub stays : OnFalse grown (now ≡ start)
  pub settled : OnFalse grown ((k : ℕ) → k < length links → Taken k → PassedAt links now.rows k)
  pub behind : (k : ℕ) → k < length links → Taken k → PassedAt links now.rows k ⊎ IsFresh fresh (from_at links k)
  pub ahead : (k : ℕ) → k < length links → PassedAt links now.rows k ⊎ (IsFresh was (from_at links k) ⊎ IsFresh fresh (from_at links k))

-- what taking a link makes of the rows and the flags
pub record Along (now next : Table) (from to : ℕ) (fresh more : List Bool) (grown : Bool) : Type 0 where
  pub gains : (x y : ℕ) → Holds next.rows x y → Holds now.rows x y ⊎ ((x ≡ to) × Holds now.rows from y)
  pub keeps : (x y : ℕ) → Holds now.rows x y → Holds next.rows x y
  pub passed : HasPassed next.rows from to
  pub grows : OnTrue grown (all_missing next.rows < all_missing now.rows)
  pub stays : OnFalse grown (next ≡ now)
  pub flags : (x : ℕ) → IsFresh fresh x → IsFresh more x
  pub flag : OnTrue grown (IsFresh more to)
  pub shape : SameShape now next

fewer : (start now next : Table) (grown : Bool) → OnTrue grown (all_missing now.rows < all_missing start.rows) → OnFalse grown (now ≡ start) → all_missing next.rows < all_missing now.rows → all_missing next.rows < all_missing start.rows
fewer start now next true g s h = omega (arith, g, h)
fewer start now next false g s h = subst (λ t. all_missing next.rows < all_missing t.rows) s h

pub flowed-none : (links : List (ℕ × ℕ)) (start : Table) (was fresh : List Bool) (Taken : ℕ → Type 0) → ((k : ℕ) → k < length links → Taken k → ⊥) → AreFlagged links start.rows was → Flowed links start start was fresh Taken false
flowed-none links start was fresh Taken none flagged = record {
  flows = flows-none links start;
  grows = tt;
  stays = refl;
  settled = λ k low t. absurd (none k low t);
  behind = λ k low t. absurd (none k low t);
  ahead = λ k low. elim (flagged (from_at links k) (to_at links k) (Contains-get_or links k (0, 0) low)) [ inl p ↦ inl p | inr q ↦ inr (inl q) ];
}

module _ (links : List (ℕ × ℕ)) (start now next : Table) (was fresh more : List Bool) (Taken Then : ℕ → Type 0) (m : ℕ) (grown : Bool) (low : m < length links) (f : Flowed links start now was fresh Taken grown) (one : (k : ℕ) → k < length links → Then k → Taken k ⊎ (k ≡ m)) where
  flows-more : (last : Bool) → Along now next (from_at links m) (to_at links m) fresh more last → Flows links start next
  flows-more last a = flows-then links start now next f.flows (record {
    shape = a.shape;
    sound = λ x y h. elim (a.gains x y h) [
      | inl old ↦ (x, old, inl refl)
      | inr new ↦ (from_at links m, new.1, Reaches-step (Linked links) (from_at links m) (from_at links m) x (inl refl) (subst (λ v. Linked links (from_at links m) v) (sym new.0) (Contains-get_or links m (0, 0) low)))
    ];
    keeps = a.keeps;
  })

  pub flowed-more : Along now next (from_at links m) (to_at links m) fresh more true → Flowed links start next was more Then true
  flowed-more a = record {
    flows = flows-more true a;
    grows = fewer start now next grown f.grows f.stays a.grows;
    stays = tt;
    settled = tt;
    behind = λ k there t. elim (one k there t) [
      | inl before ↦ elim (f.behind k there before) [ inl p ↦ on k p | inr q ↦ inr (a.flags (from_at links k) q) ]
      | inr is ↦ inl (subst (PassedAt links next.rows) (sym is) a.passed)
    ];
    ahead = λ k there. elim (f.ahead k there) [
      | inl p ↦ elim (on k p) [ inl q ↦ inl q | inr q ↦ inr (inr q) ]
      | inr (inl q) ↦ inr (inl q)
      | inr (inr q) ↦ inr (inr (a.flags (from_at links k) q))
    ];
  }
    where
      on : (k : ℕ) → PassedAt links now.rows k → PassedAt links next.rows k ⊎ IsFresh more (from_at links k)
      on k p = elim (cases_eq (from_at links k) (to_at links m)) [
        | inl same ↦ inr (subst (IsFresh more) (sym same) a.flag)
        | inr other ↦ inl (λ y h. a.keeps (to_at links k) y (p y (elim (a.gains (from_at links k) y h) [ inl old ↦ old | inr new ↦ absurd (other new.0) ])))
      ]

  pub flowed-same : Along now next (from_at links m) (to_at links m) fresh more false → Flowed links start next was more Then grown
  flowed-same a = record {
    flows = flows-more false a;
    grows = subst (λ (t : Table). OnTrue grown (all_missing t.rows < all_missing start.rows)) (sym a.stays) f.grows;
    stays = subst (λ t. OnFalse grown (t ≡ start)) (sym a.stays) f.stays;
    settled = OnFalse-weaker grown _ _ (λ s k there t. elim (one k there t) [ inl before ↦ on k (s k there before) | inr is ↦ subst (PassedAt links next.rows) (sym is) a.passed ]) f.settled;
    behind = λ k there t. elim (one k there t) [
      | inl before ↦ elim (f.behind k there before) [ inl p ↦ inl (on k p) | inr q ↦ inr (a.flags (from_at links k) q) ]
      | inr is ↦ inl (subst (PassedAt links next.rows) (sym is) a.passed)
    ];
    ahead = λ k there. elim (f.ahead k there) [
      | inl p ↦ inl (on k p)
      | inr (inl q) ↦ inr (inl q)
      | inr (inr q) ↦ inr (inr (a.flags (from_at links k) q))
    ];
  }
    where
      on : (k : ℕ) → PassedAt links now.rows k → PassedAt links next.rows k
      on k p = subst (λ (t : Table). PassedAt links t.rows k) (sym a.stays) p

module _ (links : List (ℕ × ℕ)) (start now : Table) (was fresh : List Bool) (Taken : ℕ → Type 0) (grown : Bool) (f : Flowed links start now was fresh Taken grown) (all : (k : ℕ) → k < length links → Taken k) where
  link_is : (k a b : ℕ) → k < length links → get_or links k (a, b) ≡ (a, b) → get_or links k (0, 0) ≡ (a, b)
  link_is k a b low is = get_or_default links k (0, 0) (a, b) low ∙ is

  pub flowed-flagged : AreFlagged links now.rows fresh
  flowed-flagged a b (k, low, is) = elim (f.behind k low (all k low)) [
    | inl p ↦ inl (subst (λ (q : ℕ × ℕ). HasPassed now.rows q.0 q.1) (link_is k a b low is) p)
    | inr q ↦ inr (subst (λ (q : ℕ × ℕ). IsFresh fresh q.0) (link_is k a b low is) q)
  ]

  pub flowed-settled : OnFalse grown (IsSettled links now.rows)
  flowed-settled = OnFalse-weaker grown _ _ passed f.settled
    where
      passed : ((k : ℕ) → k < length links → Taken k → PassedAt links now.rows k) → IsSettled links now.rows
      passed s a b y (k, low, is) h = subst (λ (q : ℕ × ℕ). HasPassed now.rows q.0 q.1) (link_is k a b low is) (s k low (all k low)) y h

fresh-decided : (flags : List Bool) (a : ℕ) → IsFresh flags a ⊎ (IsFresh flags a → ⊥)
fresh-decided flags a = elim (cases_lt a (length flags)) [
  | inl low ↦ by_flag low (has flags a) refl
  | inr past ↦ inl (inl (omega (arith, past)))
]
  where
    by_flag : a < length flags → (b : Bool) → has flags a ≡ b → IsFresh flags a ⊎ (IsFresh flags a → ⊥)
    by_flag low true is = inl (inr is)
    by_flag low false is = inr (λ f. elim f [ inl past ↦ omega (arith, low, past) | inr up ↦ (let both : false ≡ true = sym is ∙ up in absurd (cc)) ])

-- where each row with a number is flagged, each link is settled or its first row is flagged
pub flagged-filled : (links : List (ℕ × ℕ)) (rows : List (List Bool)) (flags : List Bool) → ((a y : ℕ) → Holds rows a y → IsFresh flags a) → AreFlagged links rows flags
flagged-filled links rows flags filled a b link = elim (fresh-decided flags a) [
  | inl up ↦ inr up
  | inr down ↦ inl (λ y h. absurd (down (filled a y h)))
]
