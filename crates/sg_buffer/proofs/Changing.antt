-- A buffer after a new change.
use Rattle.std.specs.Prelude.{◌≡◌, ℕ, ◌+◌, ◌≤◌, true, List, [], ◌∷◌, take, length, Option, None, IfSome}
use Rattle.std.proofs.Common.{sym, ap, ◌∙◌, subst, arith, append-nil, length-take}
use Rattle.sg_kinds.specs.Terms.{Term, nodes_of}
use Rattle.sg_kinds.specs.Fits.{Fits}
use Rattle.sg_kinds.specs.Sound.{IsSmall}
use Rattle.sg_kinds.specs.declared.spec.Spec.{Spec}
use Rattle.sg_forest.specs.declared.node_id.NodeId.{NodeId}
use Rattle.sg_groves.specs.Grove.{Grove, nodes, IsGrove}
use Rattle.sg_groves.specs.TermAt.{term_at}
use Rattle.sg_changes.specs.Captured.{Captured}
use Rattle.sg_changes.specs.Chain.{AllUndo, CanGo, Passes}
use Rattle.sg_changes.specs.Changes.{Change, redone}
use Rattle.sg_changes.specs.StepChanges.{told_future, told_past, tops, tops_of}
use Rattle.sg_changes.specs.declared.direction.Direction.TheVariants.{Back, Forth}
use Rattle.sg_changes.specs.declared.spot.Spot.{Spot}
use Rattle.sg_changes.specs.declared.step.Step.{Step}
use Rattle.sg_changes.proofs.Chained.{go_chains, go_fewer}
use Rattle.sg_changes.proofs.Telling.{told_agrees, told_fewer}
use Rattle.sg_undo.specs.Timeline.{Timeline}
use Rattle.sg_unparse.specs.Sheet.{Sheet}
use Rattle.sg_buffer.specs.declared.standing.Standing.{Standing}
use Rattle.sg_states.specs.Beginnings.{Begins}
use Rattle.sg_states.specs.Selections.{place_in}
use Rattle.sg_states.specs.Seen.{is_spot, nothing_typed}
use Rattle.sg_states.specs.States.{State}
use Rattle.sg_states.specs.Paged.{IsLook, IsWhole, page_seen}
use Rattle.sg_states.proofs.Foretold.{if_some}
use Rattle.sg_exchanges.specs.Roots.{times, AreTheRoots, Drops, KeepsTree}
use Rattle.sg_exchanges.specs.declared.turns.Turned.{Turned}
use Rattle.sg_exchanges.proofs.Hanging.{agree_left, root_kept, roots_left}
use Rattle.sg_exchanges.proofs.Trees.{climbs_on, page_on, whole_kept}
use Rattle.sg_buffer.specs.Held.{Held, state_of, typed_by}
use Rattle.sg_buffer.specs.Buffers.{StandsFor, IsBuffer}
use Rattle.sg_buffer.proofs.Closing.{Closes, closes}
use Rattle.sg_buffer.proofs.Stands.{no_capture}

-- the edited term once a change is made, before its step is remembered
pub record Changed (b : Held) (mid : Grove) (now : Term) (c : Change) (step : Step) (spot : Spot) (r : Turned) : Type 0 where
  pub grove : IsGrove mid
  pub spec : mid.spec ≡ b.grove.spec
  pub view : mid.view ≡ spot.view
  pub whole : IsWhole mid r.root now
  pub fits : Fits b.grove.spec now b.grove.spec.root
  pub small : IsSmall now
  pub look : IsLook mid r.root now spot r.look
  pub seen : is_spot b.grove.spec b.height now spot ≡ true
  pub told : told_past (term_at mid) now (step ∷ b.past) ≡ c ∷ told_past (term_at b.grove) (state_of b).term b.past
  pub can : CanGo b.grove.spec (Passes (is_spot b.grove.spec b.height)) Forth (state_of b).term c
  pub after : redone (state_of b).term c ≡ now
  pub roots : AreTheRoots mid (r.root ∷ tops (step ∷ b.past) b.future)

-- the step is the newest of the past, which keeps so many, and the trees of the others are gone
pub record Remembers (mid kept : Grove) (past future : List Step) (room : ℕ) (step : Step) (h : Timeline Step) : Type 0 where
  pub past_is : h.past ≡ take room (step ∷ past)
  pub future_is : h.future ≡ []
  pub room_is : h.room ≡ room
  pub dropped : (gone : List NodeId) × Drops mid kept gone × ((n : NodeId) → times n (tops_of h.past) + times n gone ≡ times n (tops (step ∷ past) future))

-- the fields then, and the state
abbrev pub changed_held : Held → Grove → Turned → Timeline Step → Option Captured → Held
changed_held b kept r h o = record {
  grove = kept;
  root = r.root;
  selected = r.look.selected;
  count = r.look.spot.selection.count;
  top = r.look.spot.top;
  height = b.height;
  past = h.past;
  future = h.future;
  capture = o;
}

abbrev pub changed_state : Held → Term → Change → Spot → State
changed_state b now c spot = record { term = now; spot = spot; past = take 256 (c ∷ (state_of b).past); future = []; capture = None }

module _ (b : Held) (count room : ℕ) (page : Option Sheet) (standing : Standing) (is : IsBuffer b count room page standing) (mid kept : Grove) (on : IsGrove kept) (now : Term) (c : Change) (step : Step) (spot : Spot) (r : Turned)
    (change : Changed b mid now c step spot r) (h : Timeline Step) (remembers : Remembers mid kept b.past b.future room step h) where
  abbrev st : State
  st = state_of b

  spec : kept.spec ≡ b.grove.spec
  spec = remembers.dropped.1.spec ∙ change.spec

  tree : KeepsTree mid kept r.root
  tree = root_kept mid kept change.grove on r.root (tops (step ∷ b.past) b.future) (tops_of h.past) remembers.dropped.0 change.roots remembers.dropped.1 remembers.dropped.2

  past_is : h.past ≡ take 256 (step ∷ b.past)
  past_is = remembers.past_is ∙ ap (λ n. take n (step ∷ b.past)) is.room_is

  past_told : told_past (term_at kept) now h.past ≡ take 256 (c ∷ st.past)
  past_told =
      told_agrees (term_at mid) (term_at kept) Back now h.past
      (agree_left mid kept change.grove on r.root (tops (step ∷ b.past) b.future) (tops_of h.past) remembers.dropped.0 change.roots remembers.dropped.1 remembers.dropped.2)
      ∙ ap (told_past (term_at mid) now) past_is
      ∙ told_fewer (term_at mid) Back 256 now (step ∷ b.past)
      ∙ ap (take 256) (change.told ∙ ap (λ cs. c ∷ cs) is.stands.past)

  undoes : AllUndo b.grove.spec (Passes (is_spot b.grove.spec b.height)) now (take 256 (c ∷ st.past))
  undoes =
      go_fewer b.grove.spec (Passes (is_spot b.grove.spec b.height)) Back 256 now (c ∷ st.past)
      (subst (λ t. AllUndo b.grove.spec (Passes (is_spot b.grove.spec b.height)) t (c ∷ st.past)) change.after
      (go_chains b.grove.spec (Passes (is_spot b.grove.spec b.height)) Forth st.term c st.past is.stands.small change.can is.stands.undoes))

  roots : AreTheRoots kept (r.root ∷ tops h.past h.future)
  roots =
      subst (λ ss. AreTheRoots kept (r.root ∷ tops h.past ss)) (sym remembers.future_is)
      (subst (λ ns. AreTheRoots kept (r.root ∷ ns)) (sym (append-nil (tops_of h.past)))
      (roots_left mid kept change.grove on r.root (tops (step ∷ b.past) b.future) (tops_of h.past) remembers.dropped.0 change.roots remembers.dropped.1 remembers.dropped.2))

  changed_stands : (o : Option Captured) → o ≡ None → StandsFor (changed_held b kept r h o) (changed_state b now c spot)
  changed_stands o none = record {
    grove = on;
    whole = whole_kept mid kept r.root tree change.grove on now change.whole;
    fits = subst (λ (z : Spec). Fits z now z.root) (sym spec) change.fits;
    small = change.small;
    tall = is.stands.tall;
    selected = climbs_on mid kept r.root tree (place_in spot.selection) r.look.selected change.look.selected;
    count = ap (λ (s : Spot). s.selection.count) change.look.spot_is;
    top = ap (λ (s : Spot). s.top) change.look.spot_is;
    view = remembers.dropped.1.view ∙ change.view;
    spot = subst (λ (z : Spec). is_spot z b.height now spot ≡ true) (sym spec) change.seen;
    past = past_told;
    future = ap (told_future (term_at kept) now) remembers.future_is;
    undoes = subst (λ (z : Spec). AllUndo z (Passes (is_spot z b.height)) now (take 256 (c ∷ st.past))) (sym spec) undoes;
    redoes = tt;
    roots = roots;
    capture = none;
    alone = no_capture (changed_held b kept r h o) none r.look.spot.selection.count;
  }

  few : length h.past + length h.future ≤ 256
  few =
      let a = ap length past_is in
      let d = length-take 256 (step ∷ b.past) in
      let e : length h.future ≡ 0 = ap length remembers.future_is in
      omega (arith, a, d, e)

  pub changed_closes : (o : Option Captured) → o ≡ None → (nodes : ℕ) → nodes ≡ nodes_of now → Closes (changed_held b kept r h o) (changed_state b now c spot) nodes h.room r.look.page (record { way = r.look.way; begins = r.look.begins })
  changed_closes o none nodes counted =
      closes (changed_held b kept r h o) (changed_state b now c spot) nodes h.room r.look.page (record { way = r.look.way; begins = r.look.begins }) (changed_stands o none) counted (remembers.room_is ∙ is.room_is) few
      (if_some (λ p. p ≡ page_seen mid r.root now nothing_typed) (λ p. p ≡ page_seen kept r.root now (typed_by o (place_in spot.selection))) r.look.page
      (λ p is. is ∙ sym (page_on mid kept r.root tree change.grove on now nothing_typed)
      ∙ sym (ap (λ p. page_seen kept r.root now (typed_by p (place_in spot.selection))) none)) change.look.page) (
        change.look.way,
        subst (λ (v : ℕ). IfSome r.look.begins (Begins kept.spec v now (place_in spot.selection))) change.view
            (subst (λ (z : Spec). IfSome r.look.begins (Begins z mid.view now (place_in spot.selection))) (sym remembers.dropped.1.spec) change.look.begins),
      )
