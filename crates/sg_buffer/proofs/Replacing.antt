-- A buffer after a term came in the place of a node.
use Rattle.std.specs.Prelude.{◌≡◌, ◌≢◌, ◌↔◌, refl, ℕ, ◌≤◌, IsOk, length, List, [], ◌∷◌, Option, None, Some, Result, Ok, Err}
use Rattle.std.proofs.Common.{sym, ap, ◌∙◌, subst}
use Rattle.std.proofs.lemmas.List.{length-reverse}
use Rattle.std.proofs.lemmas.Option.{same_Some}
use Rattle.sg_kinds.specs.Terms.{Term, nodes_of}
use Rattle.sg_kinds.specs.Fits.{Fits}
use Rattle.sg_kinds.specs.Sound.{IsSmall}
use Rattle.sg_kinds.specs.Places.{Place, place_of, put, sub}
use Rattle.sg_forest.specs.declared.node_id.NodeId.{NodeId}
use Rattle.sg_forest.specs.Trees.{Climbs, IsLive, IsRoot}
use Rattle.sg_forest.proofs.Paths.{root_is_live}
use Rattle.sg_groves.specs.Grove.{Grove, nodes, IsGrove}
use Rattle.sg_groves.specs.Holds.{Holds, IsPlaced}
use Rattle.sg_groves.specs.TermAt.{term_at}
use Rattle.sg_groves.proofs.Held.{held_at, one_term}
use Rattle.sg_groves.proofs.Ways.{one_way}
use Rattle.sg_build.specs.Counted.{AreCounts, OfReplaced, OfWhole}
use Rattle.sg_build.specs.declared.limits.Counts.{Counts}
use Rattle.sg_changes.specs.Changes.{Put, part_of}
use Rattle.sg_changes.specs.StepChanges.{tops, tops_of}
use Rattle.sg_changes.specs.declared.spot.Selection.{Selection}
use Rattle.sg_changes.specs.declared.spot.Spot.{Spot}
use Rattle.sg_changes.specs.declared.step.Step.{Step}
use Rattle.sg_changes.specs.declared.step.Step.TheVariants.{Replaced}
use Rattle.sg_changes.proofs.Marking.{part_is}
use Rattle.sg_changes.proofs.Telling.{agree_first, put_pushed}
use Rattle.sg_undo.specs.Timeline.{Timeline}
use Rattle.sg_unparse.specs.Sheet.{Sheet}
use Rattle.sg_buffer.specs.declared.standing.Standing.{Standing}
use Rattle.sg_states.specs.Paged.{IsLook}
use Rattle.sg_states.specs.Seen.{settled_spot}
use Rattle.sg_states.specs.States.{State, replaced}
use Rattle.sg_states.proofs.Spotted.{selected_seen}
use Rattle.sg_exchanges.specs.Puts.{IsPut, MayPut}
use Rattle.sg_exchanges.specs.Roots.{times, KeepsTree}
use Rattle.sg_exchanges.specs.declared.turns.Turned.{Turned}
use Rattle.sg_exchanges.proofs.Hanging.{agree_then, listed_once, listed_root, root_kept}
use Rattle.sg_buffer.specs.declared.fault.BufferFault.{BufferFault}
use Rattle.sg_buffer.specs.declared.fault.BufferFault.TheVariants.{NoMemory, Size}
use Rattle.sg_buffer.specs.Held.{Held, state_of}
use Rattle.sg_buffer.specs.Buffers.{IsBuffer}
use Rattle.sg_buffer.proofs.Changing.{Changed, Remembers, changed_closes, changed_held}
use Rattle.sg_buffer.proofs.Toggling.{spot_is}

-- a term that fits where another stands
abbrev pub FitsAt : Held → Place → Term → Type 0
FitsAt b u s = (x : Term) × (p : ℕ) × (sub (state_of b).term u ≡ Some x) × Fits b.grove.spec x p × Fits b.grove.spec s p

step_same : (path path' : List ℕ) (n : NodeId) (before before' after after' : Spot) → path ≡ path' → before ≡ before' → after ≡ after' → Replaced path n before after ≡ Replaced path' n before' after'
step_same path path' n before before' after after' p q r =
    ap (λ z. Replaced z n before after) p ∙ ap (λ z. Replaced path' n z after) q ∙ ap (λ z. Replaced path' n before' z) r

module _ (b : Held) (count room : ℕ) (page : Option Sheet) (standing : Standing) (is : IsBuffer b count room page standing) (path : List ℕ) (s : Term) (fit : FitsAt b (place_of path) s) where
  abbrev st : State
  st = state_of b

  abbrev u : Place
  u = place_of path

  pub place_there : (t : Term) × (x : Term) × Holds b.grove b.root t × (sub t u ≡ Some x)
  place_there = (st.term, fit.0, is.stands.whole.holds, fit.2)

  module _ (n : NodeId) (way : Climbs (nodes b.grove) u n b.root) where
    placed : IsPlaced b.grove b.root st.term u n
    placed = record { top = is.stands.whole.top; holds = is.stands.whole.holds; way = way }

    pub there_live : IsLive (nodes b.grove) n
    there_live = by u way
      where
        by : (w : Place) → Climbs (nodes b.grove) w n b.root → IsLive (nodes b.grove) n
        by [] e = subst (IsLive (nodes b.grove)) (sym e) (root_is_live (nodes b.grove) b.root is.stands.whole.top)
        by (k ∷ w) c = record { node = c.1.node; found = c.1.found }

    -- the whole term around the node
    whole_is : (root : NodeId) (whole : Term) (w : Place) → IsPlaced b.grove root whole w n → whole ≡ st.term
    whole_is root whole w p =
        let same : b.root ≡ root = (one_way b.grove is.stands.grove u w n b.root root is.stands.whole.top p.top way p.way).1 in
        one_term b.grove root whole st.term p.holds (subst (λ r. Holds b.grove r st.term) same is.stands.whole.holds)

    pub known : OfWhole b.grove n (λ whole. count ≡ nodes_of whole)
    known root whole w p = is.counted ∙ ap nodes_of (sym (whole_is root whole w p))

    -- as many steps lead up as its path is long
    pub steps_up : (steps : ℕ) → steps ≡ length path → (root : NodeId) (whole : Term) (w : Place) → IsPlaced b.grove root whole w n → steps ≡ length w
    steps_up steps long root whole w p =
        long ∙ sym (length-reverse path) ∙ ap length (one_way b.grove is.stands.grove u w n b.root root is.stands.whole.top p.top way p.way).0

    pub within : OfWhole b.grove n IsSmall
    within root whole w p = subst IsSmall (sym (whole_is root whole w p)) is.stands.small

    pub may_put : MayPut b.grove b.root n st.term u s
    may_put = record {
      whole = is.stands.whole;
      fits = is.stands.fits;
      way = way;
      phylum = fit.1;
      stood = λ x at. subst (λ z. Fits b.grove.spec z fit.1) (same_Some fit.0 x (sym fit.2 ∙ at)) fit.3;
      fit = fit.4;
    }

    pub at_place : IsPlaced b.grove b.root st.term u n
    at_place = placed

    abbrev now : Term
    now = put st.term u s

    module _ (select : Selection) (mid : Grove) (on : IsGrove mid) (spec : mid.spec ≡ b.grove.spec) (shown : mid.view ≡ b.grove.view) (t : Turned) (puts : IsPut b.grove mid b.root n st.term u s b.height select b.top t) (small : IsSmall now) where
      abbrev spot : Spot
      spot = settled_spot b.grove.spec b.height st.spot.view now select st.spot.top

      abbrev step : Step
      step = Replaced path n st.spot spot

      part : sub st.term u ≡ Some (part_of st.term u)
      part = fit.2 ∙ ap Some (sym (part_is st.term u fit.0 fit.2))

      stood : Fits b.grove.spec (part_of st.term u) fit.1
      stood = subst (λ z. Fits b.grove.spec z fit.1) (sym (part_is st.term u fit.0 fit.2)) fit.3

      look_now : IsLook mid t.root now spot t.look
      look_now =
          subst (λ w. IsLook mid t.root now (settled_spot b.grove.spec b.height w now select st.spot.top) t.look) is.stands.view
          (subst (λ k. IsLook mid t.root now (settled_spot b.grove.spec b.height b.grove.view now select k) t.look) is.stands.top puts.look)

      pub put_changed : Changed b mid now (Put u (part_of st.term u) s st.spot spot) step spot t
      put_changed = record {
        grove = on;
        spec = spec;
        view = shown ∙ is.stands.view;
        whole = puts.whole;
        fits = puts.fits;
        small = small;
        look = look_now;
        seen = selected_seen b.grove.spec b.height now st.spot.view select st.spot.top is.stands.tall;
        told = put_pushed (term_at b.grove) (term_at mid) st.term s (part_of st.term u) path n st.spot spot b.past part (held_at mid on n (part_of st.term u) puts.out)
            (agree_first (term_at b.grove) (term_at mid) b.past b.future
            (agree_then b.grove mid is.stands.grove on b.root [] (tops b.past b.future) is.stands.roots (λ m x top apart none holds. puts.hanging m x top apart holds)));
        can = record {
          stands = part;
          proper = (fit.1, stood, fit.4);
          small = small;
          here = is.stands.spot;
          there = selected_seen b.grove.spec b.height now st.spot.view select st.spot.top is.stands.tall;
        };
        after = refl;
        roots = puts.roots (tops b.past b.future) is.stands.roots;
      }

      -- what hangs then
      pub hung_once : (m : NodeId) → times m (n ∷ tops b.past b.future) ≤ 1
      hung_once = listed_once mid t.root (n ∷ tops b.past b.future) (puts.roots (tops b.past b.future) is.stands.roots)

      pub hung_root : (m : NodeId) → times m (n ∷ tops b.past b.future) ≢ 0 → IsRoot (nodes mid) m
      hung_root = listed_root mid t.root (n ∷ tops b.past b.future) (puts.roots (tops b.past b.future) is.stands.roots)

      -- from what the calls tell, where the fields are seen as another value
      pub put_here : (v : Held) → b ≡ v → (before : Spot)
          → before ≡ record { selection = record { path = standing.way; count = b.count }; top = b.top; view = b.grove.view }
          → (copy : List ℕ) → copy ≡ path → (made : Step) → made ≡ Replaced copy n before t.look.spot
          → (kept : Grove) → IsGrove kept → (h : Timeline Step) → Remembers mid kept b.past b.future room made h → (nodes : ℕ) → nodes ≡ nodes_of now
          → IsBuffer (changed_held b kept t h None) nodes h.room t.look.page (record { way = t.look.way; begins = t.look.begins }) × (state_of (changed_held b kept t h None) ≡ replaced v.grove.spec v.height u s select (state_of v)) × KeepsTree mid kept t.root
      put_here v view before told copy copy_is made made_is kept still h remembers nodes counted =
          let same = made_is ∙ step_same copy path n before st.spot t.look.spot spot copy_is (spot_is b count room page standing is before told) look_now.spot_is in
          let kept_steps : Remembers mid kept b.past b.future room step h = subst (λ z. Remembers mid kept b.past b.future room z h) same remembers in
          let d = kept_steps.dropped in
          let c = changed_closes b count room page standing is mid kept still now (Put u (part_of st.term u) s st.spot spot) step spot t put_changed h kept_steps None refl nodes counted in (
            c.is,
            subst (λ (z : Held). state_of (changed_held b kept t h None) ≡ replaced z.grove.spec z.height u s select (state_of z)) view c.told,
            root_kept mid kept on still t.root (n ∷ tops b.past b.future) (tops_of h.past) d.0 (puts.roots (tops b.past b.future) is.stands.roots) d.1 d.2,
          )

-- the counts of a refused term
abbrev size_in : Counts → Result (Unit {0}) BufferFault → Counts
size_in d (Ok x) = d
size_in d (Err (Size c)) = c
size_in d (Err NoMemory) = d

pub same_size : (a c : Counts) (r : Result (Unit {0}) BufferFault) → r ≡ Err (Size a) → r ≡ Err (Size c) → a ≡ c
same_size a c r one two = ap (size_in a) (sym one ∙ two)

-- where the fields are seen as another value
module _ (b v : Held) (view : b ≡ v) (count room : ℕ) (page : Option Sheet) (standing : Standing) (is : IsBuffer b count room page standing) (path : List ℕ) (s : Term) where
  pub fit_here : FitsAt v (place_of path) s → FitsAt b (place_of path) s
  fit_here fits = subst (λ z. FitsAt z (place_of path) s) (sym view) fits

  pub way_here : (n : NodeId) → Climbs (nodes v.grove) (place_of path) n v.root → Climbs (nodes b.grove) (place_of path) n b.root
  way_here n way = subst (λ (z : Held). Climbs (nodes z.grove) (place_of path) n z.root) (sym view) way

  pub small_here : IsSmall (put (state_of v).term (place_of path) s) → IsSmall (put (state_of b).term (place_of path) s)
  small_here small = subst (λ z. IsSmall (put (state_of z).term (place_of path) s)) (sym view) small

  pub counted_here : (nodes : ℕ) → nodes ≡ nodes_of (put (state_of v).term (place_of path) s) → nodes ≡ nodes_of (put (state_of b).term (place_of path) s)
  counted_here nodes counted = subst (λ z. nodes ≡ nodes_of (put (state_of z).term (place_of path) s)) (sym view) counted

  -- what is counted of the term then
  module _ (fits : FitsAt v (place_of path) s) (n : NodeId) (way : Climbs (nodes b.grove) (place_of path) n b.root) (c : Counts) (counts : AreCounts s c) where
    then_counted : (P : Term → Type 0) → OfReplaced b.grove n c P → P (put (state_of v).term (place_of path) s)
    then_counted P replaced_is =
        subst (λ z. P (put (state_of z).term (place_of path) s)) view
        (replaced_is b.root (state_of b).term s (place_of path) (at_place b count room page standing is path s (fit_here fits) n way) counts)

    pub small_told : (r : Result ℕ Counts) → OfReplaced b.grove n c (λ whole. IsOk r ↔ IsSmall whole) → IsOk r ↔ IsSmall (put (state_of v).term (place_of path) s)
    small_told r replaced_is = then_counted (λ whole. IsOk r ↔ IsSmall whole) replaced_is

    pub nodes_told : (k : ℕ) → OfReplaced b.grove n c (λ whole. k ≡ nodes_of whole) → k ≡ nodes_of (put (state_of v).term (place_of path) s)
    nodes_told k replaced_is = then_counted (λ whole. k ≡ nodes_of whole) replaced_is

    pub counts_told : (d : Counts) → OfReplaced b.grove n c (λ whole. AreCounts whole d) → AreCounts (put (state_of v).term (place_of path) s) d
    counts_told d replaced_is = then_counted (λ whole. AreCounts whole d) replaced_is
