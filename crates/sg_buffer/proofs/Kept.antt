-- A buffer in whose grove every node is as before.
use Rattle.std.specs.Prelude.{◌≡◌, refl, ℕ, true, [], Option, Some}
use Rattle.std.proofs.Common.{sym, ap, ◌∙◌, subst}
use Rattle.sg_kinds.specs.Fits.{Fits}
use Rattle.sg_kinds.specs.declared.spec.Spec.{Spec}
use Rattle.sg_pool.specs.Pools.{IsGrown}
use Rattle.sg_forest.specs.declared.node_id.NodeId.{NodeId}
use Rattle.sg_forest.specs.Node.{Node}
use Rattle.sg_forest.specs.Trees.{IsForest, IsRoot, node_at}
use Rattle.sg_groves.specs.declared.kind.Kind.{Kind}
use Rattle.sg_groves.specs.declared.part.Part.{Part}
use Rattle.sg_groves.specs.Grove.{Grove, nodes, IsGrove, IsNode}
use Rattle.sg_terms.specs.Occurrences.{AreTrees}
use Rattle.sg_terms.proofs.Held.{KeepsKinds, kids_fit, node_after, IsGrove-after}
use Rattle.sg_terms.proofs.Steps.{grove}
use Rattle.sg_groves.specs.TermAt.{term_at}
use Rattle.sg_changes.specs.declared.direction.Direction.TheVariants.{Back, Forth}
use Rattle.sg_changes.specs.Chain.{AllRedo, AllUndo, Passes}
use Rattle.sg_changes.specs.StepChanges.{Agree, tops}
use Rattle.sg_changes.proofs.Telling.{agree_first, agree_second, told_agrees}
use Rattle.sg_unparse.specs.Sheet.{Sheet}
use Rattle.sg_buffer.specs.declared.standing.Standing.{Standing}
use Rattle.sg_states.specs.Selections.{place_in}
use Rattle.sg_states.specs.Seen.{is_spot}
use Rattle.sg_states.specs.States.{State}
use Rattle.sg_states.specs.Paged.{page_seen}
use Rattle.sg_exchanges.specs.Roots.{KeepsTree}
use Rattle.sg_exchanges.proofs.Hanging.{agree_then}
use Rattle.sg_exchanges.proofs.Trees.{climbs_on, holds_on, page_on, root_on, whole_kept}
use Rattle.sg_buffer.specs.AsBefore.{IsAsBefore}
use Rattle.sg_buffer.specs.Held.{Held, state_of, typed_by}
use Rattle.sg_buffer.specs.Buffers.{StandsFor, IsBuffer, Keeps, IsStanding}
use Rattle.sg_buffer.proofs.Closing.{Closes, closes}

-- with another grove
abbrev pub regrown : Held → Grove → Held
regrown b new = record b { grove = new }

-- terms are held in it still
grove_kept : (old new : Grove) → IsGrove old → new.spec ≡ old.spec → new.view ≡ old.view → IsGrown old.pool new.pool → ((n : NodeId) → nodes new n ≡ nodes old n) → IsGrove new
grove_kept old new is spec view grown same =
    subst (λ (z : Spec). IsGrove (grove z new.view new.trees new.pool)) (sym spec)
    (subst (λ (v : ℕ). IsGrove (grove old.spec v new.trees new.pool)) (sym view)
    (IsGrove-after old.spec old.view old.trees new.trees old.pool new.pool grown is trees each))
  where
    functions : node_at new.trees ≡ node_at old.trees
    functions = λ i n. same n i

    trees : AreTrees new.trees
    trees = subst (λ (f : NodeId → Option (Node Kind Part)). IsForest (λ (k : Kind). k.arity) (λ (k : Kind). 0) (λ (k : Kind) (i : ℕ). 0) f) (sym functions) is.forest

    kinds : KeepsKinds old.spec old.view old.trees new.trees old.pool new.pool
    kinds n x y there then = (let e : Some y ≡ Some x = sym then ∙ same n ∙ there in let z : y ≡ x = cc e in ap (λ (w : Node Kind Part). w.label) z)

    each : (n : NodeId) (y : Node Kind Part) → node_at new.trees n ≡ Some y → IsNode (grove old.spec old.view new.trees new.pool) y
    each n y then =
        let there = sym (same n) ∙ then in
        node_after old.spec old.view old.trees new.trees old.pool new.pool grown is n y y there refl refl (kids_fit old.spec old.view old.trees new.trees old.pool new.pool grown is kinds n y there)

module _ (b : Held) (count room : ℕ) (page : Option Sheet) (standing : Standing) (is : IsBuffer b count room page standing) (new : Grove) (spec : new.spec ≡ b.grove.spec) (view : new.view ≡ b.grove.view) (pool : IsGrown b.grove.pool new.pool) (same : (n : NodeId) → nodes new n ≡ nodes b.grove n) where
  abbrev st : State
  st = state_of b

  on : IsGrove new
  on = grove_kept b.grove new is.stands.grove spec view pool same

  tree : (n : NodeId) → KeepsTree b.grove new n
  tree n = record { spec = spec; view = view; pool = pool; nodes = λ m inside. same m }

  root_back : (n : NodeId) → IsRoot (nodes new) n → IsRoot (nodes b.grove) n
  root_back n top = record { node = top.node; found = sym (same n) ∙ top.found; top = top.top }

  agree : Agree (term_at b.grove) (term_at new) (tops b.past b.future)
  agree = agree_then b.grove new is.stands.grove on b.root [] (tops b.past b.future) is.stands.roots (λ n x top apart none holds. holds_on b.grove new n (tree n) is.stands.grove on x holds)

  still_stands : StandsFor (regrown b new) st
  still_stands = record {
    grove = on;
    whole = whole_kept b.grove new b.root (tree b.root) is.stands.grove on st.term is.stands.whole;
    fits = subst (λ (z : Spec). Fits z st.term z.root) (sym spec) is.stands.fits;
    small = is.stands.small;
    tall = is.stands.tall;
    selected = climbs_on b.grove new b.root (tree b.root) (place_in st.spot.selection) b.selected is.stands.selected;
    count = is.stands.count;
    top = is.stands.top;
    view = view ∙ is.stands.view;
    spot = subst (λ (z : Spec). is_spot z b.height st.term st.spot ≡ true) (sym spec) is.stands.spot;
    past = told_agrees (term_at b.grove) (term_at new) Back st.term b.past (agree_first (term_at b.grove) (term_at new) b.past b.future agree) ∙ is.stands.past;
    future = told_agrees (term_at b.grove) (term_at new) Forth st.term b.future (agree_second (term_at b.grove) (term_at new) b.past b.future agree) ∙ is.stands.future;
    undoes = subst (λ (z : Spec). AllUndo z (Passes (is_spot z b.height)) st.term st.past) (sym spec) is.stands.undoes;
    redoes = subst (λ (z : Spec). AllRedo z (Passes (is_spot z b.height)) st.term st.future) (sym spec) is.stands.redoes;
    roots = record {
      once = is.stands.roots.once;
      are = λ n. (
        (λ r. (is.stands.roots.are n).0 (root_back n r)),
        (λ one. root_on b.grove new n (tree n) ((is.stands.roots.are n).1 one)),
      );
    };
    capture = is.stands.capture;
    alone = is.stands.alone;
  }

  pub regrown_closes : Closes (regrown b new) st count room page standing
  regrown_closes =
      closes (regrown b new) st count room page standing still_stands is.counted is.room_is is.few (subst (Keeps page) (sym (page_on b.grove new b.root (tree b.root) is.stands.grove on st.term (typed_by b.capture (place_in st.spot.selection)))) is.page_is)
      (subst (λ (z : Spec). IsStanding standing z st) (sym spec) is.standing_is)

  as_before : IsAsBefore b (regrown b new)
  as_before = record {
    nodes = same;
    spec = spec;
    pool = pool;
    rest = refl;
    state = regrown_closes.told;
    page = λ typed. ap (λ (z : State). page_seen new b.root z.term typed) regrown_closes.told ∙ page_on b.grove new b.root (tree b.root) is.stands.grove on st.term typed;
  }

  -- where the fields are seen as another value
  pub kept_here : (v : Held) → b ≡ v → IsBuffer (regrown b new) count room page standing × IsAsBefore v (regrown b new)
  kept_here v same_held = (regrown_closes.is, subst (λ z. IsAsBefore z (regrown b new)) same_held as_before)
