-- A buffer shown in another view.
use Rattle.std.specs.Prelude.{◌≡◌, refl, ℕ, [], IfSome, Option, None}
use Rattle.std.proofs.Common.{sym, ap, ◌∙◌, subst}
use Rattle.sg_groves.specs.Grove.{Grove, IsGrove}
use Rattle.sg_groves.specs.TermAt.{term_at}
use Rattle.sg_groves.proofs.Viewed.{Holds-view, IsGrove-view, IsRight-view}
use Rattle.sg_changes.specs.Captured.{Captured}
use Rattle.sg_changes.specs.StepChanges.{Agree, tops}
use Rattle.sg_changes.specs.declared.direction.Direction.TheVariants.{Back, Forth}
use Rattle.sg_changes.specs.declared.spot.Selection.{Selection}
use Rattle.sg_changes.specs.declared.spot.Spot.{Spot}
use Rattle.sg_changes.proofs.Telling.{agree_first, agree_second, told_agrees}
use Rattle.sg_kinds.specs.Terms.{Term}
use Rattle.sg_unparse.specs.Sheet.{Sheet}
use Rattle.sg_states.specs.Paged.{IsLook, IsWhole, page_seen}
use Rattle.sg_states.specs.Seen.{nothing_typed, settled_spot}
use Rattle.sg_states.specs.Selections.{place_in}
use Rattle.sg_states.specs.States.{State, viewed}
use Rattle.sg_states.specs.declared.looks.Look.{Look}
use Rattle.sg_states.proofs.Foretold.{if_some}
use Rattle.sg_states.proofs.Spotted.{settled_seen}
use Rattle.sg_exchanges.proofs.Hanging.{agree_then}
use Rattle.sg_buffer.specs.declared.standing.Standing.{Standing}
use Rattle.sg_buffer.specs.Held.{Held, state_of, typed_by}
use Rattle.sg_buffer.specs.Buffers.{IsBuffer, StandsFor}
use Rattle.sg_buffer.proofs.Closing.{Closes, closes}
use Rattle.sg_buffer.proofs.Stands.{no_capture}

-- the grove then, and the fields
abbrev pub grove_in : Grove → ℕ → Grove
grove_in g v = record g { view = v }

abbrev pub viewed_held : Held → Grove → Look → Held
viewed_held b new l = record {
  grove = new;
  root = b.root;
  selected = l.selected;
  count = l.spot.selection.count;
  top = l.spot.top;
  height = b.height;
  past = b.past;
  future = b.future;
  capture = b.capture;
}

abbrev pub standing_of : Look → Standing
standing_of l = record { way = l.way; begins = l.begins }

module _ (b : Held) (count room : ℕ) (page : Option Sheet) (standing : Standing) (is : IsBuffer b count room page standing) (v : ℕ) where
  abbrev st : State
  st = state_of b

  abbrev g : Grove
  g = grove_in b.grove v

  on : IsGrove g
  on = IsGrove-view b.grove v is.stands.grove

  pub whole_in : IsWhole g b.root st.term
  whole_in = record {
    top = is.stands.whole.top;
    holds = Holds-view b.grove v b.root st.term is.stands.whole.holds;
    right = IsRight-view b.grove v b.root is.stands.whole.right;
    free = is.stands.whole.free;
  }

  -- each hanging root holds what it did
  agree : Agree (term_at b.grove) (term_at g) (tops b.past b.future)
  agree = agree_then b.grove g is.stands.grove on b.root [] (tops b.past b.future) is.stands.roots (λ n x top apart none holds. Holds-view b.grove v n x holds)

  abbrev spot : Spot
  spot = settled_spot b.grove.spec b.height v st.term st.spot.selection st.spot.top

  module _ (l : Look) (look : IsLook g b.root st.term spot l) where
    abbrev then : Held
    then = viewed_held b g l

    viewed_stands : b.capture ≡ None → StandsFor then (viewed b.grove.spec b.height v st)
    viewed_stands none = record {
      grove = on;
      whole = whole_in;
      fits = is.stands.fits;
      small = is.stands.small;
      tall = is.stands.tall;
      selected = look.selected;
      count = ap (λ (s : Spot). s.selection.count) look.spot_is;
      top = ap (λ (s : Spot). s.top) look.spot_is;
      view = refl;
      spot = settled_seen b.grove.spec b.height st.term v st.spot is.stands.tall;
      past = told_agrees (term_at b.grove) (term_at g) Back st.term b.past (agree_first (term_at b.grove) (term_at g) b.past b.future agree) ∙ is.stands.past;
      future = told_agrees (term_at b.grove) (term_at g) Forth st.term b.future (agree_second (term_at b.grove) (term_at g) b.past b.future agree) ∙ is.stands.future;
      undoes = is.stands.undoes;
      redoes = is.stands.redoes;
      roots = record { once = is.stands.roots.once; are = is.stands.roots.are };
      capture = is.stands.capture;
      alone = no_capture then none l.spot.selection.count;
    }

    page_told : (o : Option Captured) → o ≡ None → IfSome l.page (λ p. p ≡ page_seen g b.root st.term (typed_by o (place_in spot.selection)))
    page_told o none =
        if_some (λ p. p ≡ page_seen g b.root st.term nothing_typed) (λ p. p ≡ page_seen g b.root st.term (typed_by o (place_in spot.selection))) l.page
        (λ p told. told ∙ sym (ap (λ z. page_seen g b.root st.term (typed_by z (place_in spot.selection))) none)) look.page

    pub viewed_closes : b.capture ≡ None → Closes then (viewed b.grove.spec b.height v st) count room l.page (standing_of l)
    viewed_closes none =
        closes then (viewed b.grove.spec b.height v st) count room l.page (standing_of l) (viewed_stands none) is.counted is.room_is is.few (page_told b.capture none)
        (look.way, look.begins)

-- where the fields are seen as another value, from what the calls tell
module _ (b seen : Held) (same : b ≡ seen) (count room : ℕ) (page : Option Sheet) (standing : Standing) (is : IsBuffer b count room page standing) (v : ℕ) (new : Grove) (shown : new ≡ grove_in b.grove v) where
  pub whole_here : IsWhole new b.root (state_of b).term
  whole_here = subst (λ (g : Grove). IsWhole g b.root (state_of b).term) (sym shown) (whole_in b count room page standing is v)

  pub viewed_here : seen.capture ≡ None → (s : Selection) → s ≡ record { path = standing.way; count = b.count } → (l : Look)
      → ((t : Term) → IsWhole new b.root t → IsLook new b.root t (settled_spot new.spec b.height new.view t s b.top) l)
      → IsBuffer (viewed_held b new l) count room l.page (standing_of l) × (state_of (viewed_held b new l) ≡ viewed seen.grove.spec seen.height v (state_of seen))
  viewed_here none s told l look =
      let selected : s ≡ (state_of b).spot.selection =
      told ∙ ap (λ p. let r : Selection = record { path = p; count = b.count } in r) is.standing_is.0
      ∙ ap (λ n. let r : Selection = record { path = (state_of b).spot.selection.path; count = n } in r) is.stands.count in
      let at = subst (λ (g : Grove). IsLook g b.root (state_of b).term (settled_spot g.spec b.height g.view (state_of b).term s b.top) l) shown (look (state_of b).term whole_here) in
      let here = subst (λ z. IsLook (grove_in b.grove v) b.root (state_of b).term (settled_spot b.grove.spec b.height v (state_of b).term z (state_of b).spot.top) l) selected
      (subst (λ n. IsLook (grove_in b.grove v) b.root (state_of b).term (settled_spot b.grove.spec b.height v (state_of b).term s n) l) is.stands.top at) in
      let c = viewed_closes b count room page standing is v l here (ap (λ (z : Held). z.capture) same ∙ none) in (
        subst (λ (g : Grove). IsBuffer (viewed_held b g l) count room l.page (standing_of l)) (sym shown) c.is,
        subst (λ (z : Held). state_of (viewed_held b new l) ≡ viewed z.grove.spec z.height v (state_of z)) same
            (ap (λ (g : Grove). state_of (viewed_held b g l)) shown ∙ c.told),
      )

  -- all else is kept
  pub kept_here : (l : Look) → viewed_held b new l ≡ record seen { grove = grove_in seen.grove v; selected = l.selected; count = l.spot.selection.count; top = l.spot.top }
  kept_here l =
      ap (λ (g : Grove). viewed_held b g l) shown
      ∙ ap (λ (z : Held). let r : Held = record z { grove = grove_in z.grove v; selected = l.selected; count = l.spot.selection.count; top = l.spot.top } in r) same

-- the same grove
pub same_grove : (b seen : Held) → b ≡ seen → (count room : ℕ) (page : Option Sheet) (standing : Standing) → IsBuffer b count room page standing → (new : Grove) → new ≡ b.grove
    → IsBuffer (record b { grove = new }) count room page standing × (record b { grove = new } ≡ seen)
same_grove b seen same count room page standing is new back = (
  subst (λ (g : Grove). IsBuffer (record b { grove = g }) count room page standing) (sym back) is,
  ap (λ (g : Grove). let r : Held = record b { grove = g } in r) back ∙ same,
)
