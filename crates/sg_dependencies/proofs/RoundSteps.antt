-- How a round goes over the operators.
use Rattle.std.specs.Prelude.{◌≡◌, ◌≢◌, ◌↔◌, ◌⊎◌, ℕ, ◌+◌, ◌<◌, ◌≤◌, Bool, true, false, cond, List, length, replicate, sum_by, All}
use Rattle.std.specs.Bool.{OnFalse}
use Rattle.std.proofs.Common.{sym, ◌∙◌, ap, subst, get_or, set, arith, inl, inr}
use Rattle.std.proofs.lemmas.Bool.{cases_eq, false≢true}
use Rattle.std.proofs.lemmas.List.{get_or-set_same, get_or-set_other, get_or-replicate, length-set}
use Rattle.std.proofs.lemmas.List.Elements.{All-contains}
use Rattle.sg_sets.specs.Rows.{Holds, all_missing}
use Rattle.sg_sets.specs.Paths.{Path}
use Rattle.sg_kinds.specs.declared.spec.Rules.{Rules}
use Rattle.sg_kinds.specs.Dependencies.{InOperator}
use Rattle.sg_dependencies.specs.Vertices.{AreInRange, Numbered}
use Rattle.sg_dependencies.specs.Frames.{Spot, Frame, frames_of, spots_of}
use Rattle.sg_dependencies.specs.Induced.{relation_at}
use Rattle.sg_dependencies.specs.Rounds.{Fits, IsSpread, IsJoined, IsSettled, AreSound, AreAlike, AreFitting, AreSettled, StaySound, frame_at, no_frame}
use Rattle.sg_dependencies.specs.Waiting.{AreApart, AreSettledElse, Waits}
use Rattle.sg_dependencies.proofs.Families.{at_same, at_other, at_each, alike_itself, alike_set}
use Rattle.sg_dependencies.proofs.Numbers.{frame_there, frames_count}
use Rattle.sg_dependencies.proofs.Sound.{spread_sound, joined_sound}

pub alike_then : (first second third : List (List (List Bool))) → AreAlike first second → AreAlike second third → AreAlike first third
alike_then first second third f g = record { count = g.count ∙ f.count; sizes = λ k. g.sizes k ∙ f.sizes k }

pub fits_on : (size size' : ℕ) (phyla phyla' : List (List (List Bool))) (spots : List Spot) → size' ≡ size → AreAlike phyla phyla' → All (Fits size phyla) spots → All (Fits size' phyla') spots
fits_on size size' phyla phyla' spots same like all k d low =
    let f = all k d low in
    record {
      phylum = let h = f.phylum in let c = like.count in omega (arith, h, c);
      attrs = like.sizes (get_or spots k d).phylum ∙ f.attrs;
      room = let r = f.room in omega (arith, r, same);
      small = f.small;
    }

pub fitting_on : (frames : List Frame) (operators phyla operators' phyla' : List (List (List Bool))) → AreAlike operators operators' → AreAlike phyla phyla' → AreFitting frames operators phyla → AreFitting frames operators' phyla'
fitting_on frames operators phyla operators' phyla' like like' fit = record {
  count = like.count ∙ fit.count;
  fits = λ p low. fits_on (length (relation_at operators p)) (length (relation_at operators' p)) phyla phyla' (frame_at frames p).spots (like.sizes p) like' (fit.fits p low);
}

-- an operator that does not wait is settled, and the first i do not wait unless a phylum gained
pub record RoundTo (frames : List Frame) (operators0 phyla0 operators phyla : List (List (List Bool))) (waiting : List Bool) (gained : Bool) (i : ℕ) : Type 0 where
  pub operators_alike : AreAlike operators0 operators
  pub phyla_alike : AreAlike phyla0 phyla
  pub sound : StaySound frames operators0 phyla0 operators phyla
  pub keeps : (p m n : ℕ) → Holds (relation_at operators0 p) m n → Holds (relation_at operators p) m n
  pub fewer : sum_by all_missing phyla + cond gained 1 0 ≤ sum_by all_missing phyla0
  pub flags : length waiting ≡ length frames
  pub others : AreSettledElse frames waiting operators phyla
  pub clear : OnFalse gained ((p : ℕ) → p < i → Waits waiting p → ⊥)

pub round_none : (frames : List Frame) (operators phyla : List (List (List Bool))) (waiting : List Bool) → length waiting ≡ length frames → AreSettledElse frames waiting operators phyla → RoundTo frames operators phyla operators phyla waiting false 0
round_none frames operators phyla waiting long others = record {
  operators_alike = alike_itself operators;
  phyla_alike = alike_itself phyla;
  sound = λ rules ranges same are. are;
  keeps = λ p m n h. h;
  fewer = omega arith;
  flags = long;
  others = others;
  clear = λ p low w. absurd (omega (arith, low));
}

-- what `settle` does for one operator
pub record Settles (frames : List Frame) (operators phyla phyla' : List (List (List Bool))) (i : ℕ) (rows : List (List Bool)) (gained : Bool) : Type 0 where
  pub low : i < length frames
  pub there : i < length operators
  pub spreads : (m n : ℕ) → Holds rows m n ↔ (Holds (relation_at operators i) m n ⊎ IsSpread (frame_at frames i).spots phyla m n)
  pub joins : (X a b : ℕ) → Holds (relation_at phyla' X) a b ↔ (Holds (relation_at phyla X) a b ⊎ IsJoined (frame_at frames i).spots (Path (Holds rows)) X a b)
  pub size : length rows ≡ length (relation_at operators i)
  pub alike : AreAlike phyla phyla'
  pub fewer : sum_by all_missing phyla' + cond gained 1 0 ≤ sum_by all_missing phyla
  pub stays : OnFalse gained (phyla' ≡ phyla)

pub settles_at : (frames : List Frame) (operators phyla phyla' : List (List (List Bool))) (i : ℕ) (spots : List Spot) (held rows : List (List Bool)) (gained : Bool) → i < length frames → i < length operators → spots ≡ (frame_at frames i).spots → held ≡ relation_at operators i
    → ((m n : ℕ) → Holds rows m n ↔ (Holds held m n ⊎ IsSpread spots phyla m n)) → ((X a b : ℕ) → Holds (relation_at phyla' X) a b ↔ (Holds (relation_at phyla X) a b ⊎ IsJoined spots (Path (Holds rows)) X a b))
    → length rows ≡ length held → AreAlike phyla phyla' → sum_by all_missing phyla' + cond gained 1 0 ≤ sum_by all_missing phyla → OnFalse gained (phyla' ≡ phyla) → Settles frames operators phyla phyla' i rows gained
settles_at frames operators phyla phyla' i spots held rows gained low there are was spreads joins size alike fewer stays = record {
  low = low;
  there = there;
  spreads = subst (λ r. (m n : ℕ) → Holds rows m n ↔ (Holds r m n ⊎ IsSpread (frame_at frames i).spots phyla m n)) was (subst (λ xs. (m n : ℕ) → Holds rows m n ↔ (Holds held m n ⊎ IsSpread xs phyla m n)) are spreads);
  joins = subst (λ xs. (X a b : ℕ) → Holds (relation_at phyla' X) a b ↔ (Holds (relation_at phyla X) a b ⊎ IsJoined xs (Path (Holds rows)) X a b)) are joins;
  size = size ∙ ap length was;
  alike = alike;
  fewer = fewer;
  stays = stays;
}

settles_sound : (frames : List Frame) (operators phyla phyla' : List (List (List Bool))) (i : ℕ) (rows : List (List Bool)) (gained : Bool) → Settles frames operators phyla phyla' i rows gained
    → (rules : Rules) → AreInRange rules → frames ≡ frames_of rules → AreSound rules operators phyla → AreSound rules (set operators i rows) phyla'
settles_sound frames operators phyla phyla' i rows gained s rules ranges same are =
    let op : i < length rules.ops = let l = s.low in omega (arith, l, ap length same, frames_count rules) in
    let spots : (frame_at frames i).spots ≡ spots_of rules i = ap (λ (f : Frame). f.spots) (ap (λ fs. frame_at fs i) same ∙ frame_there rules i no_frame op) in
    let new : (m n : ℕ) → Holds rows m n → Numbered rules i (InOperator rules i) m n = λ m n h. elim ((s.spreads m n).0 h) [
      | inl was ↦ are.operator i m n was
      | inr spread ↦ spread_sound rules i (frame_at frames i).spots phyla spots are.phylum m n spread
    ] in
    record {
      operator = λ p m n. at_each operators i rows s.there (λ q x. Holds x m n → Numbered rules q (InOperator rules q) m n) (new m n) p (are.operator p m n);
      phylum = λ X a b h. elim ((s.joins X a b).0 h) [ inl was ↦ are.phylum X a b was | inr joined ↦ joined_sound rules ranges i (frame_at frames i).spots rows spots new X a b joined ];
    }

settles_keeps : (frames : List Frame) (operators phyla phyla' : List (List (List Bool))) (i : ℕ) (rows : List (List Bool)) (gained : Bool) → Settles frames operators phyla phyla' i rows gained
    → (p m n : ℕ) → Holds (relation_at operators p) m n → Holds (relation_at (set operators i rows) p) m n
settles_keeps frames operators phyla phyla' i rows gained s p m n =
    at_each operators i rows s.there (λ q x. Holds (relation_at operators q) m n → Holds x m n) (λ h. (s.spreads m n).1 (inl h)) p (λ h. h)

-- what settles an operator leaves others settled that share no phylum with it
apart_settled : (spots others : List Spot) (rows : List (List Bool)) (R : ℕ → ℕ → Type 0) (phyla phyla' : List (List (List Bool))) → AreApart others spots
    → ((X a b : ℕ) → Holds (relation_at phyla' X) a b ↔ (Holds (relation_at phyla X) a b ⊎ IsJoined spots R X a b)) → IsSettled others rows phyla → IsSettled others rows phyla'
apart_settled spots others rows R phyla phyla' apart joins s = record {
  spread = λ m n h.
      let at = h.placed in
      let was : Holds (relation_at phyla h.spot.phylum) at.a at.b = elim ((joins h.spot.phylum at.a at.b).0 at.related) [
        | inl was ↦ was
        | inr joined ↦ absurd (All-contains (λ (t : Spot). t.phylum ≢ h.spot.phylum) spots joined.spot (All-contains (λ (o : Spot). All (λ (t : Spot). t.phylum ≢ o.phylum) spots) others h.spot apart h.stands) joined.stands joined.phylum)
      ] in
      s.spread m n (record { spot = h.spot; stands = h.stands; placed = record { a = at.a; b = at.b; a_there = at.a_there; b_there = at.b_there; related = was; from = at.from; to = at.to } });
  joined = λ X a b h. (joins X a b).1 (inl (s.joined X a b h));
}

others_gain : (frames : List Frame) (operators phyla phyla' : List (List (List Bool))) (waiting waiting' : List Bool) (i : ℕ) (rows : List (List Bool)) → AreSettledElse frames waiting operators phyla → Settles frames operators phyla phyla' i rows true
    → Waits waiting i → ((q : ℕ) → Waits waiting q → Waits waiting' q) → ((q : ℕ) → q < length frames → Waits waiting' q ⊎ AreApart (frame_at frames q).spots (frame_at frames i).spots)
    → AreSettledElse frames waiting' (set operators i rows) phyla'
others_gain frames operators phyla phyla' waiting waiting' i rows others s here stays calls p low = elim (calls p low) [
  | inl w ↦ inl w
  | inr apart ↦ elim (others p low) [
    | inl w ↦ inl (stays p w)
    | inr settled ↦ elim (cases_eq p i) [
      | inl is ↦ inl (subst (Waits waiting') (sym is) (stays i here))
      | inr ne ↦ inr (subst (λ x. IsSettled (frame_at frames p).spots x phyla') (sym (at_other operators i p rows ne)) (apart_settled (frame_at frames i).spots (frame_at frames p).spots (relation_at operators p) (Path (Holds rows)) phyla phyla' apart s.joins settled))
    ]
  ]
]

pub round_gains : (frames : List Frame) (operators0 phyla0 operators phyla phyla' : List (List (List Bool))) (waiting waiting' : List Bool) (gained : Bool) (i : ℕ) (rows : List (List Bool)) → RoundTo frames operators0 phyla0 operators phyla waiting gained i → Settles frames operators phyla phyla' i rows true
    → Waits waiting i → length waiting' ≡ length waiting → ((q : ℕ) → Waits waiting q → Waits waiting' q) → ((q : ℕ) → q < length frames → Waits waiting' q ⊎ AreApart (frame_at frames q).spots (frame_at frames i).spots)
    → RoundTo frames operators0 phyla0 (set operators i rows) phyla' waiting' true (i + 1)
round_gains frames operators0 phyla0 operators phyla phyla' waiting waiting' gained i rows to s here long stays calls = record {
  operators_alike = alike_set operators0 operators i rows to.operators_alike s.there s.size;
  phyla_alike = alike_then phyla0 phyla phyla' to.phyla_alike s.alike;
  sound = λ rules ranges same are. settles_sound frames operators phyla phyla' i rows true s rules ranges same (to.sound rules ranges same are);
  keeps = λ p m n h. settles_keeps frames operators phyla phyla' i rows true s p m n (to.keeps p m n h);
  fewer = let f = to.fewer in let g = s.fewer in omega (arith, f, g);
  flags = long ∙ to.flags;
  others = others_gain frames operators phyla phyla' waiting waiting' i rows to.others s here stays calls;
  clear = tt;
}

others_stay : (frames : List Frame) (operators phyla : List (List (List Bool))) (waiting : List Bool) (i : ℕ) (rows : List (List Bool)) → AreSettledElse frames waiting operators phyla → Settles frames operators phyla phyla i rows false
    → AreSettledElse frames (set waiting i false) (set operators i rows) phyla
others_stay frames operators phyla waiting i rows others s p low = elim (cases_eq p i) [
  | inl is ↦ inr (rw is (subst (λ x. IsSettled (frame_at frames i).spots x phyla) (sym (at_same operators i rows s.there))
      (record { spread = λ m n h. (s.spreads m n).1 (inr h); joined = λ X a b h. (s.joins X a b).1 (inr h) })))
  | inr ne ↦ elim (others p low) [
    | inl w ↦ inl (get_or-set_other waiting i p false true ne ∙ w)
    | inr settled ↦ inr (subst (λ x. IsSettled (frame_at frames p).spots x phyla) (sym (at_other operators i p rows ne)) settled)
  ]
]

clear_more : (waiting : List Bool) (gained : Bool) (i : ℕ) → (Waits waiting i → ⊥) → OnFalse gained ((p : ℕ) → p < i → Waits waiting p → ⊥) → OnFalse gained ((p : ℕ) → p < i + 1 → Waits waiting p → ⊥)
clear_more waiting true i not before = tt
clear_more waiting false i not before = λ p low w. elim (cases_eq p i) [
  | inl is ↦ not (subst (Waits waiting) is w)
  | inr ne ↦ before p (omega (arith, low, ne)) w
]

clear_set : (waiting : List Bool) (gained : Bool) (i : ℕ) → OnFalse gained ((p : ℕ) → p < i → Waits waiting p → ⊥) → OnFalse gained ((p : ℕ) → p < i → Waits (set waiting i false) p → ⊥)
clear_set waiting true i before = tt
clear_set waiting false i before = λ p low w. let ne : p ≢ i = omega (arith, low) in before p low (sym (get_or-set_other waiting i p false true ne) ∙ w)

pub round_stays : (frames : List Frame) (operators0 phyla0 operators phyla phyla' : List (List (List Bool))) (waiting : List Bool) (gained : Bool) (i : ℕ) (rows : List (List Bool)) → RoundTo frames operators0 phyla0 operators phyla waiting gained i → Settles frames operators phyla phyla' i rows false
    → RoundTo frames operators0 phyla0 (set operators i rows) phyla' (set waiting i false) gained (i + 1)
round_stays frames operators0 phyla0 operators phyla phyla' waiting gained i rows to s =
    let same : phyla' ≡ phyla = s.stays in
    let low : i < length waiting = let l = s.low in let f = to.flags in omega (arith, l, f) in
    let not : Waits (set waiting i false) i → ⊥ = λ w. false≢true (sym (get_or-set_same waiting i false true low) ∙ w) in
    rw same (record {
      operators_alike = alike_set operators0 operators i rows to.operators_alike s.there s.size;
      phyla_alike = to.phyla_alike;
      sound = λ rules ranges same' are. settles_sound frames operators phyla phyla i rows false (subst (λ x. Settles frames operators phyla x i rows false) same s) rules ranges same' (to.sound rules ranges same' are);
      keeps = λ p m n h. settles_keeps frames operators phyla phyla' i rows false s p m n (to.keeps p m n h);
      fewer = to.fewer;
      flags = length-set waiting i false ∙ to.flags;
      others = others_stay frames operators phyla waiting i rows to.others (subst (λ x. Settles frames operators phyla x i rows false) same s);
      clear = clear_more (set waiting i false) gained i not (clear_set waiting gained i to.clear);
    })

pub round_over : (frames : List Frame) (operators0 phyla0 operators phyla : List (List (List Bool))) (waiting : List Bool) (gained : Bool) (i : ℕ) → RoundTo frames operators0 phyla0 operators phyla waiting gained i → (Waits waiting i → ⊥) → RoundTo frames operators0 phyla0 operators phyla waiting gained (i + 1)
round_over frames operators0 phyla0 operators phyla waiting gained i to not = record {
  operators_alike = to.operators_alike;
  phyla_alike = to.phyla_alike;
  sound = to.sound;
  keeps = to.keeps;
  fewer = to.fewer;
  flags = to.flags;
  others = to.others;
  clear = clear_more waiting gained i not to.clear;
}

settled_by : (frames : List Frame) (operators phyla : List (List (List Bool))) (waiting : List Bool) (i : ℕ) → length frames ≤ i → AreSettledElse frames waiting operators phyla → ((p : ℕ) → p < i → Waits waiting p → ⊥) → AreSettled frames operators phyla
settled_by frames operators phyla waiting i all others clear p low = elim (others p low) [
  | inl w ↦ absurd (clear p (omega (arith, low, all)) w)
  | inr settled ↦ settled
]

pub round_settled : (frames : List Frame) (operators0 phyla0 operators phyla : List (List (List Bool))) (waiting : List Bool) (gained : Bool) (i : ℕ) → length frames ≤ i → RoundTo frames operators0 phyla0 operators phyla waiting gained i → OnFalse gained (AreSettled frames operators phyla)
round_settled frames operators0 phyla0 operators phyla waiting true i all to = tt
round_settled frames operators0 phyla0 operators phyla waiting false i all to = settled_by frames operators phyla waiting i all to.others to.clear

-- all operators wait at first
pub others_first : (frames : List Frame) (operators phyla : List (List (List Bool))) (waiting : List Bool) → waiting ≡ replicate (length frames) true → AreSettledElse frames waiting operators phyla
others_first frames operators phyla waiting made p low = inl (ap (λ w. get_or w p true) made ∙ get_or-replicate (length frames) p true true low)
