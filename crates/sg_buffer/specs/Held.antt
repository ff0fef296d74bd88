-- What a contract sees of a buffer, and the state that it stands for.
use Rattle.std.specs.Prelude.{ℕ, List, refl, Option, None, Some}
use Rattle.std.specs.Coded.{Coded, code_by, coded×, coded_ℕ, coded_list, coded_option}
use Rattle.sg_kinds.specs.Values.{Bytes}
use Rattle.sg_kinds.specs.ValueCode.{value_code}
use Rattle.sg_kinds.specs.Terms.{Term}
use Rattle.sg_kinds.specs.Places.{Place}
use Rattle.sg_kinds.specs.declared.spec.Spec.{Spec}
use Rattle.sg_kinds.specs.contracts.spec.Spec as the_spec
use Rattle.sg_kinds.specs.Values.{Value}
use Rattle.sg_forest.specs.declared.node_id.NodeId.{NodeId}
use Rattle.sg_forest.specs.Node.{id_code}
use Rattle.sg_forest.specs.Trees.{Trees, trees_code}
use Rattle.sg_groves.specs.declared.kind.Kind.{Kind}
use Rattle.sg_groves.specs.declared.part.Part.{Part}
use Rattle.sg_groves.specs.contracts.kind.Kind as the_kind
use Rattle.sg_groves.specs.contracts.part.Part as the_part
use Rattle.sg_groves.specs.Grove.{Grove}
use Rattle.sg_groves.specs.TermAt.{term_at, way_at}
use Rattle.sg_changes.specs.Captured.{Captured, captured}
use Rattle.sg_changes.specs.StepChanges.{told_past, told_future}
use Rattle.sg_changes.specs.declared.spot.Spot.{Spot}
use Rattle.sg_changes.specs.declared.step.Step.{Step}
use Rattle.sg_changes.specs.contracts.step.Step as the_step
use Rattle.sg_unparse.specs.Sheet.{Sheet}
use Rattle.sg_states.specs.Paged.{page_seen}
use Rattle.sg_states.specs.Selections.{path_to, place_in}
use Rattle.sg_states.specs.Seen.{nothing_typed, typed_at}
use Rattle.sg_states.specs.States.{State}

-- terms in a grove, the root of the edited one and its selected node, of a run the first; how many are selected, the
-- window's first line and its height; the steps of the history; and the text that is being typed
pub record Held : Type 0 where
  pub grove : Grove
  pub root : NodeId
  pub selected : NodeId
  pub count : ℕ
  pub top : ℕ
  pub height : ℕ
  pub past : List Step
  pub future : List Step
  pub capture : Option Captured

-- a grove is stored as the tuple of its fields, a capture as a pair, and what is held so too
abbrev pub grove_code : Coded Grove
grove_code =
    code_by
    (Spec × (Trees Kind Part × (List Value × ℕ)))
    (coded× the_spec.the_row.coded
    (coded× (trees_code the_kind.the_row.coded the_part.the_row.coded) (coded× (coded_list value_code) coded_ℕ)))
    (λ g. (g.spec, (g.trees, (g.pool, g.view))))
    (λ p. record { spec = p.0; trees = p.1.0; pool = p.1.1.0; view = p.1.1.1 })
    (λ _. refl)

abbrev pub captured_code : Coded Captured
captured_code =
    code_by
    (Bytes × ℕ)
    (coded× (coded_list coded_ℕ) coded_ℕ)
    (λ c. (c.text, c.point))
    (λ p. captured p.0 p.1)
    (λ _. refl)

abbrev pub held_code : Coded Held
held_code =
    code_by
    (Grove × (NodeId × (NodeId × (ℕ × (ℕ × (ℕ × (List Step × (List Step × Option Captured))))))))
    (coded× grove_code (coded× id_code (coded× id_code (coded× coded_ℕ (coded× coded_ℕ (coded× coded_ℕ
    (coded× (coded_list the_step.the_row.coded)
    (coded× (coded_list the_step.the_row.coded) (coded_option captured_code)))))))))
    (λ b. (b.grove, (b.root, (b.selected, (b.count, (b.top, (b.height, (b.past, (b.future, b.capture)))))))))
    (λ p. record {
      grove = p.0;
      root = p.1.0;
      selected = p.1.1.0;
      count = p.1.1.1.0;
      top = p.1.1.1.1.0;
      height = p.1.1.1.1.1.0;
      past = p.1.1.1.1.1.1.0;
      future = p.1.1.1.1.1.1.1.0;
      capture = p.1.1.1.1.1.1.1.1;
    })
    (λ _. refl)

-- the edited term, the place of the selected node, and the spot, in the view in which the terms are shown
abbrev pub term_in : Held → Term
term_in b = term_at b.grove b.root

abbrev pub selected_in : Held → Place
selected_in b = way_at b.grove b.selected

abbrev pub spot_in : Held → Spot
spot_in b = record {
  selection = record { path = path_to (selected_in b); count = b.count };
  top = b.top;
  view = b.grove.view;
}

-- the state: the changes of the history are told from the term and from what the hanging roots hold
unfoldable pub state_of : Held → State
state_of b = record {
  term = term_in b;
  spot = spot_in b;
  past = told_past (term_at b.grove) (term_in b) b.past;
  future = told_future (term_at b.grove) (term_in b) b.future;
  capture = b.capture;
}

-- what is typed at the places of the term of a state
abbrev pub typed_by : Option Captured → Place → Place → Option Bytes
typed_by None u = nothing_typed
typed_by (Some c) u = typed_at u c.text

-- the page of a state's term and what is being typed
abbrev pub page_by : Held → State → Sheet
page_by b st = page_seen b.grove b.root st.term (typed_by b.capture (place_in st.spot.selection))

abbrev pub shown : Held → Sheet
shown b = page_by b (state_of b)
