-- What a call does after another, or where its references are told in another way.
use Rattle.std.specs.Prelude.{◌⊎◌, List, Result, Ok, Err, OnOk, MatchResult}
use Rattle.std.proofs.Common.{inl, inr}
use Rattle.sg_kinds.specs.Places.{Place}
use Rattle.sg_kinds.specs.Nets.{Reference}
use Rattle.sg_kinds.specs.declared.plans.Plans.{Plans}
use Rattle.sg_eval.specs.declared.journal.Instance.{Instance}
use Rattle.sg_forest.specs.declared.node_id.NodeId.{NodeId}
use Rattle.sg_forest.specs.Trees.{Climbs}
use Rattle.sg_groves.specs.Grove.{Grove, nodes, IsGrove}
use Rattle.sg_groves.proofs.Frames.{only_itself, only_more, only_twice, only_climbed}
use Rattle.sg_terms.specs.Entries.{Gained, GainedAll}
use Rattle.sg_attrib.proofs.Listed.{gained_before, gained_all_before, gained_more, gained_same, gained_nothing, gained_twice, gained_all_twice}
use Rattle.sg_propagate.specs.Worklist.{Worklist}
use Rattle.sg_propagate.specs.Scenes.{Scene, term_now, IsMeant, IsStaged, AreFine, AreNoted}
use Rattle.sg_propagate.specs.Moves.{AreMeant, IsRefSlot, IsMore, Moves}
use Rattle.sg_propagate.proofs.Staged.{more_itself, more_twice, fine_kept}

module _ {A E : Type 0} (sc : Scene) where
  -- nothing is to be evaluated, and nothing was
  pub moves_nothing : (gives : Reference Place → Type 0) (g : Grove) (w : Worklist) (was : List Instance) (x : A) → ((a : Reference Place) → gives a → IsMeant sc a → ⊥) → AreNoted sc g w → AreFine sc g w gives → Moves {A = A} {E = E} sc gives g g w w was was (Ok x)
  moves_nothing gives g w was x none noted fine = record {
    frame = only_itself g (IsRefSlot g sc (AreMeant sc gives));
    listed = record { gained = gained_nothing g sc.root (term_now sc) (AreMeant sc gives) was; every = λ a is. absurd (none a is.0 is.1) };
    fine = fine;
    noted = noted;
    more = more_itself w;
  }

  -- the same references, told in another way; after an error more may be told
  pub moves_again : (few more : Reference Place → Type 0) (old new : Grove) (before after : Worklist) (was now : List Instance) (r : Result A E) → ((a : Reference Place) → few a → more a) → OnOk r ((a : Reference Place) → more a → few a)
      → Moves sc few old new before after was now r → Moves sc more old new before after was now r
  moves_again few more old new before after was now r within back m = record {
    frame = only_more old new (IsRefSlot old sc (AreMeant sc few)) (IsRefSlot old sc (AreMeant sc more)) (λ n slot s. record { ref = s.ref; of_refs = (let o = s.of_refs in (within s.ref o.0, o.1)); climbs = s.climbs; same = s.same }) m.frame;
    listed = listed_by r back m.listed;
    fine = fine_by r back m.fine;
    noted = m.noted;
    more = m.more;
  }
    where
      up : (a : Reference Place) → AreMeant sc few a → AreMeant sc more a
      up a is = (within a is.0, is.1)

      listed_by : (x : Result A E) → OnOk x ((a : Reference Place) → more a → few a) → MatchResult x (λ _. GainedAll old sc.root (term_now sc) (AreMeant sc few) was now) (λ _. Gained old sc.root (term_now sc) (AreMeant sc few) was now)
          → MatchResult x (λ _. GainedAll old sc.root (term_now sc) (AreMeant sc more) was now) (λ _. Gained old sc.root (term_now sc) (AreMeant sc more) was now)
      listed_by (Ok x) again all = gained_same old sc.root (term_now sc) (AreMeant sc few) (AreMeant sc more) was now up (λ a is. (again a is.0, is.1)) all
      listed_by (Err e) again some = gained_more old sc.root (term_now sc) (AreMeant sc few) (AreMeant sc more) was now up some

      fine_by : (x : Result A E) → OnOk x ((a : Reference Place) → more a → few a) → OnOk x (AreFine sc new after few) → OnOk x (AreFine sc new after more)
      fine_by (Ok x) again fine = λ a n of climbs. fine a n (again a of) climbs
      fine_by (Err e) again fine = fine

  -- another answer
  pub moves_ok : {B D : Type 0} (gives : Reference Place → Type 0) (old new : Grove) (before after : Worklist) (was now : List Instance) (x : B) (y : A) → Moves {A = B} {E = D} sc gives old new before after was now (Ok x) → Moves {A = A} {E = E} sc gives old new before after was now (Ok y)
  moves_ok gives old new before after was now x y m = record { frame = m.frame; listed = m.listed; fine = m.fine; noted = m.noted; more = m.more }

  pub moves_err : {B D : Type 0} (gives : Reference Place → Type 0) (old new : Grove) (before after : Worklist) (was now : List Instance) (x : D) (y : E) → Moves {A = B} {E = D} sc gives old new before after was now (Err x) → Moves {A = A} {E = E} sc gives old new before after was now (Err y)
  moves_err gives old new before after was now x y m = record { frame = m.frame; listed = m.listed; fine = m.fine; noted = m.noted; more = m.more }

-- one call after another
module _ {A B D E : Type 0} (plans : Plans) (sc : Scene) (one two both : Reference Place → Type 0) (old mid new : Grove) (before between after : Worklist) (was among now : List Instance) (x : A) (r : Result B E)
    (is_old : IsGrove old) (is_mid : IsGrove mid) (mid_staged : IsStaged plans sc mid between)
    (first : Moves {A = A} {E = D} sc one old mid before between was among (Ok x)) (second : Moves sc two mid new between after among now r)
    (apart : (a : Reference Place) → one a → two a → ⊥)
    (in_one : (a : Reference Place) → one a → both a) (in_two : (a : Reference Place) → two a → both a) (split : (a : Reference Place) → both a → one a ⊎ two a) where
  meant_apart : (a : Reference Place) → AreMeant sc one a → AreMeant sc two a → ⊥
  meant_apart a p q = apart a p.0 q.0

  meant_one : (a : Reference Place) → AreMeant sc one a → AreMeant sc both a
  meant_one a p = (in_one a p.0, p.1)

  meant_two : (a : Reference Place) → AreMeant sc two a → AreMeant sc both a
  meant_two a p = (in_two a p.0, p.1)

  meant_split : (a : Reference Place) → AreMeant sc both a → AreMeant sc one a ⊎ AreMeant sc two a
  meant_split a p = elim (split a p.0) [ inl here ↦ inl (here, p.1) | inr there ↦ inr (there, p.1) ]

  climbed_first : (u : Place) (n m : NodeId) → Climbs (nodes mid) u n m → Climbs (nodes old) u n m
  climbed_first = only_climbed old mid (IsRefSlot old sc (AreMeant sc one)) first.frame

  listed_by : (y : Result B E) → MatchResult y (λ _. GainedAll mid sc.root (term_now sc) (AreMeant sc two) among now) (λ _. Gained mid sc.root (term_now sc) (AreMeant sc two) among now)
      → MatchResult y (λ _. GainedAll old sc.root (term_now sc) (AreMeant sc both) was now) (λ _. Gained old sc.root (term_now sc) (AreMeant sc both) was now)
  listed_by (Ok y) all =
      gained_all_twice old sc.root (term_now sc) (AreMeant sc one) (AreMeant sc two) (AreMeant sc both) was among now meant_apart meant_one meant_two meant_split first.listed
      (gained_all_before old mid (IsRefSlot old sc (AreMeant sc one)) first.frame sc.root (term_now sc) (AreMeant sc two) among now all)
  listed_by (Err e) some =
      gained_twice old sc.root (term_now sc) (AreMeant sc one) (AreMeant sc two) (AreMeant sc both) was among now meant_apart meant_one meant_two first.listed.gained
      (gained_before old mid (IsRefSlot old sc (AreMeant sc one)) first.frame sc.root (term_now sc) (AreMeant sc two) among now some)

  fine_by : (y : Result B E) → OnOk y (IsMore between after) → OnOk y (AreFine sc new after two) → OnOk y (AreFine sc new after both)
  fine_by (Err e) more fine = fine
  fine_by (Ok y) more fine = λ a m of climbs. elim (split a of) [
    | inl here ↦
        let up = only_climbed mid new (IsRefSlot mid sc (AreMeant sc two)) second.frame a.node m sc.root climbs in
        fine_kept plans sc mid new is_mid between after (AreMeant sc two) mid_staged second.frame more a m up (λ q. apart a here q.0) (first.fine a m here up)
    | inr there ↦ fine a m there climbs
  ]

  more_by : (y : Result B E) → OnOk y (IsMore between after) → OnOk y (IsMore before after)
  more_by (Ok y) more = more_twice before between after first.more more
  more_by (Err e) more = more

  pub moves_twice : Moves sc both old new before after was now r
  moves_twice = record {
    frame = only_more old new (λ m slot. IsRefSlot old sc (AreMeant sc one) m slot ⊎ IsRefSlot mid sc (AreMeant sc two) m slot) (IsRefSlot old sc (AreMeant sc both))
        (λ m slot either. elim either [
          | inl s ↦ record { ref = s.ref; of_refs = meant_one s.ref s.of_refs; climbs = s.climbs; same = s.same }
          | inr s ↦ record { ref = s.ref; of_refs = meant_two s.ref s.of_refs; climbs = climbed_first s.ref.node m sc.root s.climbs; same = s.same }
        ]) (only_twice old mid new (IsRefSlot old sc (AreMeant sc one)) (IsRefSlot mid sc (AreMeant sc two)) first.frame second.frame);
    listed = listed_by r second.listed;
    fine = fine_by r second.more second.fine;
    noted = second.noted;
    more = more_by r second.more;
  }
