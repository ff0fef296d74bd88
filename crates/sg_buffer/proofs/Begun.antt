-- The first term of a buffer.
use Rattle.std.specs.Prelude.{◌≡◌, refl, ℕ, ◌+◌, ◌≤◌, true, not, ◌&&◌, if◌then◌else◌, nat_lt, List, [], ◌∷◌, Option, None, Some}
use Rattle.std.specs.Option.{option_map_or}
use Rattle.std.proofs.Common.{sym, ap, ◌∙◌, subst, arith, append-nil}
use Rattle.sg_kinds.specs.Terms.{Term, nodes_of}
use Rattle.sg_kinds.specs.Fits.{Fits}
use Rattle.sg_kinds.specs.FromScratch.{value_in}
use Rattle.sg_kinds.specs.InView.{in_view}
use Rattle.sg_kinds.specs.Sound.{IsSmall}
use Rattle.sg_kinds.specs.declared.spec.Spec.{Spec}
use Rattle.sg_forest.specs.declared.node_id.NodeId.{NodeId}
use Rattle.sg_groves.specs.Grove.{Grove, IsGrove}
use Rattle.sg_groves.proofs.Below.{below_to}
use Rattle.sg_unparse.specs.Cells.{Mark}
use Rattle.sg_unparse.specs.Owned.{place_of_mark, before}
use Rattle.sg_unparse.specs.Page.{Region, cells_of, position_behind, region_of}
use Rattle.sg_unparse.proofs.Begins.{region_begins}
use Rattle.sg_states.specs.Seen.{first_line, is_spot, marks_seen, nothing_typed}
use Rattle.sg_states.specs.States.{begun}
use Rattle.sg_states.specs.Paged.{IsWhole}
use Rattle.sg_states.proofs.Selecting.{alone_selected}
use Rattle.sg_kinds.proofs.Elementary.{and_true}
use Rattle.sg_undo.specs.Timeline.{Timeline, timeline}
use Rattle.sg_changes.specs.declared.step.Step.{Step}
use Rattle.sg_buffer.specs.Held.{Held, state_of}
use Rattle.sg_exchanges.specs.Roots.{AreTheRoots}
use Rattle.sg_buffer.specs.Buffers.{StandsFor, IsBuffer}
use Rattle.sg_buffer.specs.declared.standing.Standing.{Standing}
use Rattle.sg_buffer.proofs.Closing.{closes}

-- the root begins in the first line
nothing_before : (marks : List Mark) → before [] marks ≡ []
nothing_before [] = refl
nothing_before (x ∷ marks) = ap (λ b. if b then [] else x ∷ before [] marks) (below_to (place_of_mark x) [] (record { below = place_of_mark x; is = sym (append-nil (place_of_mark x)) }))

pub root_line : (spec : Spec) (v : ℕ) (t : Term) → first_line spec v t [] ≡ 1
unfolding first_line
root_line spec v t = by (region_of (marks_seen spec v t nothing_typed) []) refl
  where
    by : (o : Option Region) → region_of (marks_seen spec v t nothing_typed) [] ≡ o → option_map_or (λ r. r.first.line) o 1 ≡ 1
    by None e = refl
    by (Some r) e =
        ap (λ p. p.line) (region_begins (in_view spec v) (value_in spec t) nothing_typed [] t 0 [] r e)
        ∙ ap (λ ms. (position_behind (cells_of ms)).line) (nothing_before (marks_seen spec v t nothing_typed))

begins_seen : (height line : ℕ) → 1 ≤ height → line ≡ 1 → (not (nat_lt line 1) && nat_lt line (1 + height)) ≡ true
begins_seen height line tall first = grind arith

pub begun_spot : (spec : Spec) (height : ℕ) (t : Term) → 1 ≤ height → is_spot spec height t (begun t).spot ≡ true
begun_spot spec height t tall = and_true _ _ (alone_selected spec 0 t [] refl) (begins_seen height (first_line spec 0 t []) tall (root_line spec 0 t))

pub begun_stands : (g : Grove) (root : NodeId) (height : ℕ) (t : Term) → IsGrove g → g.view ≡ 0 → IsWhole g root t → Fits g.spec t g.spec.root → IsSmall t → 1 ≤ height → AreTheRoots g (root ∷ [])
    → StandsFor (record { grove = g; root = root; selected = root; count = 1; top = 1; height = height; past = []; future = []; capture = None }) (begun t)
begun_stands g root height t is ordinary whole fits small tall roots = record {
  grove = is;
  whole = whole;
  fits = fits;
  small = small;
  tall = omega (arith, tall);
  selected = refl;
  count = refl;
  top = refl;
  view = ordinary;
  spot = begun_spot g.spec height t tall;
  past = refl;
  future = refl;
  undoes = tt;
  redoes = tt;
  roots = roots;
  capture = refl;
  alone = tt;
}

-- nothing is told of where the root begins
abbrev pub unseen : Standing
unseen = record { way = []; begins = None }

-- a new buffer
abbrev begun_held : Grove → NodeId → ℕ → Held
begun_held g root height = record { grove = g; root = root; selected = root; count = 1; top = 1; height = height; past = []; future = []; capture = None }

pub begun_closes : (g : Grove) (spec : Spec) (root : NodeId) (height : ℕ) (t : Term) (count : ℕ) (h : Timeline Step) (standing : Standing) → standing ≡ unseen → g.spec ≡ spec → IsGrove g → g.view ≡ 0 → IsWhole g root t → Fits spec t spec.root → IsSmall t
    → count ≡ nodes_of t → 1 ≤ height → AreTheRoots g (root ∷ []) → h ≡ timeline [] [] 256
    → IsBuffer (record { grove = g; root = root; selected = root; count = 1; top = 1; height = height; past = h.past; future = h.future; capture = None }) count h.room None standing
    × (state_of (record { grove = g; root = root; selected = root; count = 1; top = 1; height = height; past = h.past; future = h.future; capture = None }) ≡ begun t)
begun_closes g spec root height t count h standing at same is ordinary whole fits small counted tall roots empty =
    subst (λ (z : Timeline Step). IsBuffer (record { grove = g; root = root; selected = root; count = 1; top = 1; height = height; past = z.past; future = z.future; capture = None }) count z.room None standing
    × (state_of (record { grove = g; root = root; selected = root; count = 1; top = 1; height = height; past = z.past; future = z.future; capture = None }) ≡ begun t)) (sym empty)
    (let c = closes (begun_held g root height) (begun t) count 256 None unseen (begun_stands g root height t is ordinary whole (subst (λ (s : Spec). Fits s t s.root) (sym same) fits) small tall roots) counted refl (omega arith) tt (refl, tt) in
    (subst (λ (o : Standing). IsBuffer (begun_held g root height) count 256 None o) (sym at) c.is, c.told))
