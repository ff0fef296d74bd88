-- Lemmas on the lookaheads of nodes.
use Rattle.std.proofs.Common.{◌≡◌, ℕ, suc, ◌-◌, ◌<◌, ◌≤◌, ◌⊎◌, inl, inr, Bool, List, [], ◌∷◌, ◌++◌, length, map, take, drop, refl, sym, ap, ◌∙◌, subst, arith, Some, None}
use Rattle.std.specs.Prelude.{◌↔◌, Contains, All, slice_index}
use Rattle.std.proofs.lemmas.List.{append-nil, get_or-map}
use Rattle.std.proofs.lemmas.List.Elements.{All-drop, All-contains}
use Rattle.std.proofs.lemmas.Option.{same_Some, none-some, slice_get_within, get_or_from_slice_get}
use Rattle.sg_sets.specs.Members.{Has}
use Rattle.sg_sets.specs.Paths.{Leads, Reaches, Linked}
use Rattle.sg_sets.specs.Rows.{Holds, row_of}
use Rattle.sg_sets.proofs.PathsLemmas.{Reaches-step}
use Rattle.sg_grammar.specs.declared.grammar.Production.{Production}
use Rattle.sg_grammar.specs.Grammar.{Grammar, right_of}
use Rattle.sg_grammar.specs.WellFormed.{IsWellFormed}
use Rattle.sg_grammar.specs.Derives.{AllProductive}
use Rattle.sg_lalr.specs.declared.states.Move.{Move}
use Rattle.sg_lalr.specs.declared.states.Origin.{Origin}
use Rattle.sg_lalr.specs.declared.lookaheads.Node.{Node}
use Rattle.sg_lalr.specs.Least.{Grown}
use Rattle.sg_lalr.specs.ValidItems.{Begins, behind, Valid, start, close, step, Viable}
use Rattle.sg_lalr.specs.Items.{Item, item, HasNext, symbol_of, moved}
use Rattle.sg_lalr.specs.Closure.{InRange, HasLeft, opened}
use Rattle.sg_lalr.specs.Automaton.{row_at, goto, IsWhole, state_of}
use Rattle.sg_lalr.specs.Firsts.{First, Firsts, StandsBehind, IsNullable}
use Rattle.sg_lalr.specs.Lookaheads.{Triple, starts, closes, steps, node, node_at, IsLaid, rest_of, BeginsWith, MovesTo, OpensTo, FlowsTo, Gives, IsStart, AreLookaheads}
use Rattle.sg_lalr.specs.Slots.{Shares, AreSlots, OfSome, Joined, Gained}
use Rattle.sg_lalr.proofs.CornerLemmas.{HasLeft-at, HasLeft-within}
use Rattle.sg_lalr.proofs.MoveLemmas.{right_of-fits}
use Rattle.sg_lalr.proofs.FirstLemmas.{null-front, front-null, firsts-begins, begins-firsts, null-begins}
use Rattle.sg_lalr.proofs.LinkLemmas.{joined-row, joined-none, joined-as, joined-both, gained-row, gained-none, LinkedTo, SeededTo}
use Rattle.sg_lalr.proofs.StateLemmas.{found-some, found-state, found-viable, core-of-state, state-of-viable}

-- the nodes of a state are those between its places
pub in-range : (cores : List (List Item)) (nodes : List Node) (firsts : List ℕ) → IsLaid cores nodes firsts → (s m : ℕ) → s < length cores → m < length nodes → (node_at nodes m).state ≡ s → (slice_index firsts s ≤ m) × (m < slice_index firsts (suc s))
in-range cores nodes firsts laid s m l k e = (
  subst (λ t. slice_index firsts t ≤ m) e (laid.above m k),
  subst (λ t. m < slice_index firsts (suc t)) e (laid.below m k),
)

pub range-below : (cores : List (List Item)) (nodes : List Node) (firsts : List ℕ) → IsLaid cores nodes firsts → (s m : ℕ) → s < length cores → m < slice_index firsts (suc s) → m < length nodes
range-below cores nodes firsts laid s m l h = let w = laid.within (suc s) (omega (arith, l)) in omega (arith, w, h)

pub rest-fits : (g : Grammar) (i : Item) → IsWellFormed g → All (λ X. X < g.symbols) (rest_of g i)
rest-fits g i w = All-drop (λ X. X < g.symbols) (suc i.dot) (right_of g i.production) (right_of-fits g i.production w).1

-- the row of the nodes that begin productions of a symbol, between places that are written otherwise
pub begun-as : (slots : List ℕ) (nodes nodes' : List Node) (g : Grammar) (x from from' to to' s : ℕ) → nodes' ≡ nodes → from ≡ from' → to ≡ to' → ((y : ℕ) → OfSome slots (λ c. (from ≤ c) × (c < to) × BeginsWith g (node_at nodes' c).item x) y ↔ (y ≡ s)) → (y : ℕ) → OfSome slots (λ c. (from' ≤ c) × (c < to') × BeginsWith g (node_at nodes c).item x) y ↔ (y ≡ s)
begun-as slots nodes nodes' g x from from' to to' s n f t found =
    subst (λ a. (y : ℕ) → OfSome slots (λ c. (a ≤ c) × (c < to') × BeginsWith g (node_at nodes c).item x) y ↔ (y ≡ s)) f
    (subst (λ b. (y : ℕ) → OfSome slots (λ c. (from ≤ c) × (c < b) × BeginsWith g (node_at nodes c).item x) y ↔ (y ≡ s)) t
    (subst (λ ns. (y : ℕ) → OfSome slots (λ c. (from ≤ c) × (c < to) × BeginsWith g (node_at ns c).item x) y ↔ (y ≡ s)) n found))

-- a node with its symbol, and the nodes that begin productions of it
module _ (g : Grammar) (cores : List (List Item)) (nodes : List Node) (firsts : List ℕ) (laid : IsLaid cores nodes firsts) (a x : ℕ) (there : a < length nodes) (symbol : symbol_of g (node_at nodes a).item ≡ Some x) where
  abbrev state : ℕ
  state = (node_at nodes a).state

  known : (node_at nodes a).state < length cores
  known = laid.known a there

  -- between the places of its state
  pub opens-range : (c : ℕ) → ((slice_index firsts (node_at nodes a).state ≤ c) × (c < slice_index firsts (suc (node_at nodes a).state)) × BeginsWith g (node_at nodes c).item x) → (c < length nodes) × OpensTo g nodes a c
  opens-range c h = (range-below cores nodes firsts laid (node_at nodes a).state c known h.1, (x, symbol, laid.here (node_at nodes a).state c known h.0 h.1, h.2))

  pub range-opens : (c : ℕ) → c < length nodes → OpensTo g nodes a c → (slice_index firsts (node_at nodes a).state ≤ c) × (c < slice_index firsts (suc (node_at nodes a).state)) × BeginsWith g (node_at nodes c).item x
  range-opens c l h =
      let r = in-range cores nodes firsts laid (node_at nodes a).state c known l h.2 in
      (r.0, r.1, subst (BeginsWith g (node_at nodes c).item) (same_Some h.0 x (sym h.1 ∙ symbol)) h.3)

  abbrev pub Begun : ℕ → Type 0
  Begun c = (slice_index firsts (node_at nodes a).state ≤ c) × (c < slice_index firsts (suc (node_at nodes a).state)) × BeginsWith g (node_at nodes c).item x

  module _ (slots : List ℕ) (count : length slots ≡ length nodes) where
    pub seeded : (old now : List (List Bool)) (first : List Bool) (set : List Bool) (rows : List (List Bool)) → IsNullable g set → ((X u : ℕ) → Holds rows X u ↔ ((X < g.symbols) × First g X u)) → ((u : ℕ) → Has first u ↔ ((Y : ℕ) × StandsBehind set (rest_of g (node_at nodes a).item) Y × Holds rows Y u)) → IsWellFormed g
        → (s : ℕ) → ((y : ℕ) → OfSome slots Begun y ↔ (y ≡ s)) → ((y u : ℕ) → Holds now y u ↔ (Holds old y u ⊎ ((y ≡ s) × Has first u))) → Gained old now slots (Gives g nodes a)
    seeded old now first set rows nullable exact begun formed s is gains = gained-row old now slots s first Begun (Gives g nodes a) is gains (λ c u l. (
      λ h.
          let o = opens-range c h.0 in
          let f = (begun u).0 h.1 in
          (o.1, (f.1.0, f.0, null-front g set nullable (take f.1.0 rest) f.1.1, f.1.2, ((exact f.0 u).0 f.2).1)),
      λ h.
          let f = h.1 in
          let low : f.1 < g.symbols = subst (λ Y. Y < g.symbols) (get_or_from_slice_get rest f.0 f.1 0 f.3) (rest-fits g (node_at nodes a).item formed f.0 0 (slice_get_within rest f.0 f.1 f.3)) in
          (range-opens c (subst (λ n. c < n) count l) h.0, (begun u).1 (f.1, (f.0, front-null g set nullable (take f.0 rest) f.2, f.3), (exact f.1 u).1 (low, f.4))),
    ))
      where
        rest : List ℕ
        rest = rest_of g (node_at nodes a).item

    abbrev pub Opened : ℕ → Type 0
    Opened c = OpensTo g nodes a c × Grown g.rules 0 (rest_of g (node_at nodes a).item)

    pub opened-links : (old : List (ℕ × ℕ)) (s : ℕ) → Grown g.rules 0 (rest_of g (node_at nodes a).item) → ((y : ℕ) → OfSome slots Begun y ↔ (y ≡ s)) → Joined old (old ++ (slice_index slots a, s) ∷ []) slots a Opened
    opened-links old s null is = joined-as old (old ++ (slice_index slots a, s) ∷ []) slots a Begun Opened (λ c l. (λ h. ((opens-range c h).1, null), λ h. range-opens c (subst (λ n. c < n) count l) h.0)) (joined-row old slots a s Begun is)

    pub shut-links : (old : List (ℕ × ℕ)) → (Grown g.rules 0 (rest_of g (node_at nodes a).item) → ⊥) → Joined old old slots a Opened
    shut-links old none = joined-none old slots a Opened (λ c l h. none h.1)

    -- a symbol without productions opens nothing
    pub bare-links : (old : List (ℕ × ℕ)) → ((c : ℕ) → BeginsWith g (node_at nodes c).item x → ⊥) → Joined old old slots a Opened
    bare-links old none = joined-none old slots a Opened (λ c l h. none c (range-opens c (subst (λ n. c < n) count l) h.0).2)

    pub bare-gives : (old : List (List Bool)) → ((c : ℕ) → BeginsWith g (node_at nodes c).item x → ⊥) → Gained old old slots (Gives g nodes a)
    bare-gives old none = gained-none old slots (Gives g nodes a) (λ c u l h. none c (range-opens c (subst (λ n. c < n) count l) h.0).2)

-- along states as along prefixes
pub triple-complete : (g : Grammar) (moves : List (List Move)) (w : List ℕ) (p d t : ℕ) → Valid g w p d t → Triple g moves (state_of moves w) p d t
triple-complete g moves _ _ _ _ (start k p l e) = starts k p l e
triple-complete g moves _ _ _ _ (close w p d t X q u r v a b c f) = closes (state_of moves w) p d t X q u r (triple-complete g moves w p d t v) a b c f
triple-complete g moves _ _ _ _ (step w p d t X v a) = steps (state_of moves w) (goto moves (state_of moves w) X) p d t X (triple-complete g moves w p d t v) a refl

pub triple-sound : (g : Grammar) (moves : List (List Move)) (s p d t : ℕ) → Triple g moves s p d t → (w : List ℕ) × (state_of moves w ≡ s) × Valid g w p d t
triple-sound g moves _ _ _ _ (starts k p l e) = ([], refl, start k p l e)
triple-sound g moves _ _ _ _ (closes s p d t X q u r v a b c f) = let i = triple-sound g moves s p d t v in (i.0, i.1, close i.0 p d t X q u r i.2 a b c f)
triple-sound g moves _ _ _ _ (steps s v p d t X h a e) = let i = triple-sound g moves s p d t h in (X ∷ i.0, ap (λ u. goto moves u X) i.1 ∙ sym e, step i.0 p d t X i.2 a)

-- what a node's links and the links to its productions are together
module _ (g : Grammar) (moves : List (List Move)) (cores : List (List Item)) (nodes : List Node) (firsts : List ℕ) (laid : IsLaid cores nodes firsts) (a x : ℕ) (there : a < length nodes) (symbol : symbol_of g (node_at nodes a).item ≡ Some x)
    (target : goto moves (node_at nodes a).state x < length cores) where
  abbrev v : ℕ
  v = goto moves (node_at nodes a).state x

  pub moves-to : (c : ℕ) → ((slice_index firsts (goto moves (node_at nodes a).state x) ≤ c) × (c < slice_index firsts (suc (goto moves (node_at nodes a).state x))) × ((node_at nodes c).item ≡ moved (node_at nodes a).item)) → (c < length nodes) × MovesTo g moves nodes a c
  moves-to c h = (range-below cores nodes firsts laid (goto moves (node_at nodes a).state x) c target h.1, (x, symbol, (λ i. node (laid.here (goto moves (node_at nodes a).state x) c target h.0 h.1 i) (h.2 i))))

  pub to-moves : (c : ℕ) → c < length nodes → MovesTo g moves nodes a c → (slice_index firsts (goto moves (node_at nodes a).state x) ≤ c) × (c < slice_index firsts (suc (goto moves (node_at nodes a).state x))) × ((node_at nodes c).item ≡ moved (node_at nodes a).item)
  to-moves c l m =
      let same : m.0 ≡ x = same_Some m.0 x (sym m.1 ∙ symbol) in
      let r = in-range cores nodes firsts laid (goto moves (node_at nodes a).state x) c target l (ap (λ (n : Node). n.state) m.2 ∙ ap (goto moves (node_at nodes a).state) same) in
      (r.0, r.1, ap (λ (n : Node). n.item) m.2)

  abbrev pub Moved : ℕ → Type 0
  Moved c = (slice_index firsts (goto moves (node_at nodes a).state x) ≤ c) × (c < slice_index firsts (suc (goto moves (node_at nodes a).state x))) × ((node_at nodes c).item ≡ moved (node_at nodes a).item)

  pub flows-open : (slots : List ℕ) → length slots ≡ length nodes → (old mid new : List (ℕ × ℕ)) → Joined old mid slots a Moved → Joined mid new slots a (λ c. OpensTo g nodes a c × Grown g.rules 0 (rest_of g (node_at nodes a).item)) → Joined old new slots a (FlowsTo g moves nodes a)
  flows-open slots count old mid new joined opens =
      joined-both old mid new slots a (MovesTo g moves nodes a) (λ c. OpensTo g nodes a c × Grown g.rules 0 (rest_of g (node_at nodes a).item))
      (joined-as old mid slots a Moved (MovesTo g moves nodes a) (λ c l. (λ h. (moves-to c h).1, λ h. to-moves c (subst (λ n. c < n) count l) h)) joined) opens

  -- a terminal begins no production
  opens-none : IsWellFormed g → x < g.terminals → (c : ℕ) → OpensTo g nodes a c → ⊥
  opens-none formed low c o =
      let left = o.3.1 in
      let same : x ≡ left.0.left = same_Some x o.0 (sym symbol ∙ o.1) ∙ left.2 in
      let q = (node_at nodes c).item.production in
      let r = formed.rules q left.0 (slice_get_within g.rules q left.0 left.1) in
      let t : g.terminals ≤ left.0.left = subst (λ (s : Production). g.terminals ≤ s.left) (get_or_from_slice_get g.rules q left.0 left.0 left.1) r.0 in
      omega (arith, t, same, low)

  pub flows-shut : (slots : List ℕ) → length slots ≡ length nodes → (old new : List (ℕ × ℕ)) → IsWellFormed g → x < g.terminals → Joined old new slots a Moved → Joined old new slots a (FlowsTo g moves nodes a)
  flows-shut slots count old new formed low joined = joined-as old new slots a Moved (FlowsTo g moves nodes a) (λ c l. (
    λ h. inl (moves-to c h).1,
    λ h. elim h [ inl m ↦ to-moves c (subst (λ n. c < n) count l) m | inr o ↦ absurd (opens-none formed low c o.0) ],
  )) joined

  pub gives-shut : (slots : List ℕ) (old : List (List Bool)) → IsWellFormed g → x < g.terminals → Gained old old slots (Gives g nodes a)
  gives-shut slots old formed low = gained-none old slots (Gives g nodes a) (λ c u l h. opens-none formed low c h.0)

-- an item with its dot at the end has no symbol to move or to begin with
pub ends-links : (g : Grammar) (moves : List (List Move)) (nodes : List Node) (a : ℕ) → symbol_of g (node_at nodes a).item ≡ None → (slots : List ℕ) (old : List (ℕ × ℕ)) → Joined old old slots a (FlowsTo g moves nodes a)
ends-links g moves nodes a none slots old = joined-none old slots a (FlowsTo g moves nodes a) (λ c l f. elim f [ inl m ↦ none-some m.0 (sym none ∙ m.1) | inr o ↦ none-some o.0.0 (sym none ∙ o.0.1) ])

pub ends-gives : (g : Grammar) (nodes : List Node) (a : ℕ) → symbol_of g (node_at nodes a).item ≡ None → (slots : List ℕ) (old : List (List Bool)) → Gained old old slots (Gives g nodes a)
ends-gives g nodes a none slots old = gained-none old slots (Gives g nodes a) (λ c u l h. none-some h.0.0 (sym none ∙ h.0.1))

-- the nodes of a whole automaton
module _ (g : Grammar) (kernels cores : List (List Item)) (moves : List (List Move)) (origins : List Origin) (whole : IsWhole g kernels cores moves origins) (nodes : List Node) (firsts : List ℕ) (laid : IsLaid cores nodes firsts) where
  pub node-range : (a : ℕ) → a < length nodes → InRange g (node_at nodes a).item
  node-range a l =
      let s = (node_at nodes a).state in
      All-contains (InRange g) (row_at cores s) (node_at nodes a).item (whole.part.closed s (laid.known a l)).within (laid.contained a l)

  pub node-next : (a x : ℕ) → a < length nodes → symbol_of g (node_at nodes a).item ≡ Some x → HasNext g (row_at cores (node_at nodes a).state) x
  node-next a x l symbol = ((node_at nodes a).item, laid.contained a l, symbol)

  pub node-target : (a x : ℕ) → a < length nodes → symbol_of g (node_at nodes a).item ≡ Some x → goto moves (node_at nodes a).state x < length cores
  node-target a x l symbol =
      let k = laid.known a l in
      let c = whole.cored in
      let m = whole.moved in
      let b = (whole.part.leads (node_at nodes a).state x (omega (arith, k, c, m)) (node-next a x l symbol)).0 in
      omega (arith, b, c)

  -- the productions of a node's symbol begin in its state
  pub node-begun : (a x : ℕ) → a < length nodes → symbol_of g (node_at nodes a).item ≡ Some x → (q : ℕ) → HasLeft g.rules x q → (c : ℕ) × (c < length nodes) × (node_at nodes c ≡ node (node_at nodes a).state (item q 0))
  node-begun a x l symbol q left =
      let s = (node_at nodes a).state in
      let i = (node_at nodes a).item in
      let low = laid.known a l in
      let closed = whole.part.closed s low in
      let kept = (closed.exact i.production i.dot).0 (laid.contained a l) in
      laid.has s (item q 0) low ((closed.exact q 0).1 (opened i.production i.dot x q left.0 kept symbol left.1 left.2))

  module _ (formed : IsWellFormed g) (productive : AllProductive g) (entry : 0 < length g.entries) where
    abbrev TripleAt : ℕ → ℕ → Type 0
    TripleAt m t = Triple g moves (node_at nodes m).state (node_at nodes m).item.production (node_at nodes m).item.dot t

    pub has-triple : (m : ℕ) → m < length nodes → (t : ℕ) × TripleAt m t
    has-triple m l =
        let s = (node_at nodes m).state in
        let low = laid.known m l in
        let c = whole.cored in
        let f = found-some g formed productive entry kernels cores moves origins whole.part s (omega (arith, low, c)) in
        let v = found-viable g formed productive entry kernels cores moves origins whole.part s f.0 f.1 in
        let at = found-state g formed productive entry kernels cores moves origins whole s f.0 f.1 in
        let core = core-of-state g formed productive entry kernels cores moves origins whole f.0 v in
        let i = (core (node_at nodes m).item.production (node_at nodes m).item.dot).0 (subst (λ u. Contains (row_at cores u) (node_at nodes m).item) (sym at) (laid.contained m l)) in
        (i.0, subst (λ u. Triple g moves u (node_at nodes m).item.production (node_at nodes m).item.dot i.0) at (triple-complete g moves f.0 (node_at nodes m).item.production (node_at nodes m).item.dot i.0 i.1))

    triple-contained : (s p d t : ℕ) → Triple g moves s p d t → (s < length cores) × Contains (row_at cores s) (item p d)
    triple-contained s p d t h =
        let w = triple-sound g moves s p d t h in
        let v : Viable g w.0 = (p, d, (t, w.2)) in
        let low = (state-of-viable g formed productive entry kernels cores moves origins whole w.0 v).0 in
        let core = core-of-state g formed productive entry kernels cores moves origins whole w.0 v in
        let c = whole.cored in
        (subst (λ u. u < length cores) w.1 (omega (arith, low, c)), subst (λ u. Contains (row_at cores u) (item p d)) w.1 ((core p d).1 (t, w.2)))

    -- nodes that may share a row have the same lookaheads
    shared-begun : (s p d u X q : ℕ) → Triple g moves s p d u → d ≡ 0 → HasLeft g.rules X p → HasLeft g.rules X q → Triple g moves s q 0 u
    shared-begun _ _ _ _ X q (starts k p l e) zero-dot left other = absurd (let w = HasLeft-within g.rules X p left in omega (arith, w, e))
    shared-begun _ _ _ _ X q (closes s p d t Y n u r h symbol at is begins) zero-dot left other =
        closes s p d t Y q u other.0 h symbol other.1 (is ∙ sym (HasLeft-at g.rules X n r at left) ∙ other.2) begins
    shared-begun _ _ _ _ X q (steps s v p d t Y h symbol e) zero-dot left other = absurd (omega (arith, zero-dot))

    share-triple : (b c u : ℕ) → Shares g nodes b c → TripleAt b u → TripleAt c u
    share-triple b c u (inl e) h = subst (λ z. TripleAt z u) e h
    share-triple b c u (inr s) h =
        let i = (node_at nodes b).item in
        let j = (node_at nodes c).item in
        subst (λ z. Triple g moves z j.production j.dot u) s.1 (subst (λ z. Triple g moves (node_at nodes b).state j.production z u) (sym s.3.0)
        (shared-begun (node_at nodes b).state i.production i.dot u s.0 j.production h s.2.0 s.2.1 s.3.1))

    module _ (slots : List ℕ) (start rows : List (List Bool)) (links : List (ℕ × ℕ)) (count : ℕ) (are : AreSlots g nodes (length nodes) slots count)
        (n : ℕ) (all : length nodes ≤ n) (few : n ≤ length nodes)
        (linked : LinkedTo links slots n (FlowsTo g moves nodes))
        (seeds : SeededTo start slots n (λ c u. IsStart g (node_at nodes c) × (u ≡ 0)) (Gives g nodes))
        (flows : (x y : ℕ) → Holds rows x y ↔ ((s : ℕ) × Holds start s y × Reaches (Linked links) s x)) where
      -- all nodes of a row have a lookahead
      abbrev RowTriple : ℕ → ℕ → Type 0
      RowTriple y u = (c : ℕ) → c < length nodes → y ≡ slice_index slots c → TripleAt c u

      in-nodes : (c : ℕ) → c < length slots → c < length nodes
      in-nodes c l = let e = are.long in omega (arith, l, e)

      row-of-one : (y c u : ℕ) → c < length slots → y ≡ slice_index slots c → TripleAt c u → RowTriple y u
      row-of-one y c u l is h d k e = share-triple c d u (are.apart c d (in-nodes c l) k (sym is ∙ e)) h

      opened-triple : (b c t u : ℕ) → TripleAt b t → OpensTo g nodes b c → Begins g (rest_of g (node_at nodes b).item) t u → TripleAt c u
      opened-triple b c t u h o begins =
          let made = closes (node_at nodes b).state (node_at nodes b).item.production (node_at nodes b).item.dot t o.0 (node_at nodes c).item.production u o.3.1.0 h o.1 o.3.1.1 o.3.1.2 begins in
          subst (λ s. Triple g moves s (node_at nodes c).item.production (node_at nodes c).item.dot u) (sym o.2) (subst (λ d. Triple g moves (node_at nodes b).state (node_at nodes c).item.production d u) (sym o.3.0) made)

      seed-triple : (y u : ℕ) → Holds start y u → RowTriple y u
      seed-triple y u h = elim ((seeds y u).0 h) [
        | inl s ↦
            let c = s.0 in
            let i = s.2.0 in
            let range = node-range c (in-nodes c s.1) in
            let p = (node_at nodes c).item.production in
            let low = i.2 in
            let made : Triple g moves 0 p 0 0 = starts (p - length g.rules) p (omega (arith, range, low)) (omega (arith, low)) in
            row-of-one y c u s.1 s.3 (subst (λ z. Triple g moves z p (node_at nodes c).item.dot u) (sym i.0) (subst (λ z. Triple g moves 0 p z u) (sym i.1) (subst (λ z. Triple g moves 0 p 0 z) (sym s.2.1) made)))
        | inr v ↦
            let o = v.2 in
            let t = has-triple v.0 (let l = v.1 in omega (arith, l, few)) in
            row-of-one y o.0 u o.1 o.3 (opened-triple v.0 o.0 t.0 u t.1 o.2.0 (firsts-begins g (rest_of g (node_at nodes v.0).item) t.0 u o.2.1))
      ]

      flow-triple : (b c u : ℕ) → FlowsTo g moves nodes b c → TripleAt b u → TripleAt c u
      flow-triple b c u (inl m) h =
          let n' = node_at nodes b in
          subst (λ (z : Node). Triple g moves z.state z.item.production z.item.dot u) (sym m.2) (steps n'.state (goto moves n'.state m.0) n'.item.production n'.item.dot u m.0 h m.1 refl)
      flow-triple b c u (inr o) h = opened-triple b c u u h o.0 (subst (λ r. Begins g r u u) (append-nil (rest_of g (node_at nodes b).item)) (null-begins g (rest_of g (node_at nodes b).item) [] u u o.1 (behind u)))

      link-triple : (x y u : ℕ) → Linked links x y → RowTriple x u → RowTriple y u
      link-triple x y u l h =
          let k = (linked x y).0 l in
          let o = k.3 in
          row-of-one y o.0 u o.1 o.3 (flow-triple k.0 o.0 u o.2 (h k.0 (let b = k.1 in omega (arith, b, few)) k.2))

      path-triple : (x y u : ℕ) (via : List ℕ) → Leads (Linked links) x via y → RowTriple x u → RowTriple y u
      path-triple x y u [] l h = link-triple x y u l h
      path-triple x y u (v ∷ via) l h = path-triple v y u via l.1 (link-triple x v u l.0 h)

      row-triple : (y u : ℕ) → Holds rows y u → RowTriple y u
      row-triple y u h =
          let f = (flows y u).0 h in
          let s = seed-triple f.0 u f.1 in
          elim f.2 [ inl same ↦ subst (λ z. RowTriple z u) same s | inr path ↦ path-triple f.0 y u path.0 path.1 s ]

      holds-start : (y u : ℕ) → Holds start y u → Holds rows y u
      holds-start y u h = (flows y u).1 (y, h, inl refl)

      holds-link : (x y u : ℕ) → Linked links x y → Holds rows x u → Holds rows y u
      holds-link x y u l h = let f = (flows x u).0 h in (flows y u).1 (f.0, f.1, Reaches-step (Linked links) f.0 x y f.2 l)

      in-slots : (m : ℕ) → m < length nodes → m < length slots
      in-slots m l = let e = are.long in omega (arith, l, e)

      holds-flow : (b c u : ℕ) → b < length nodes → c < length nodes → FlowsTo g moves nodes b c → Holds rows (slice_index slots b) u → Holds rows (slice_index slots c) u
      holds-flow b c u l k f h = holds-link (slice_index slots b) (slice_index slots c) u ((linked (slice_index slots b) (slice_index slots c)).1 (b, omega (arith, l, all), refl, (c, in-slots c k, f, refl))) h

      triple-row : (s p d t : ℕ) → Triple g moves s p d t → (m : ℕ) → m < length nodes → node_at nodes m ≡ node s (item p d) → Holds rows (slice_index slots m) t
      triple-row _ _ _ _ (starts k p l e) m low is =
          holds-start (slice_index slots m) 0 ((seeds (slice_index slots m) 0).1 (inl (m, in-slots m low, ((ap (λ (z : Node). z.state) is, ap (λ (z : Node). z.item.dot) is, (let q = ap (λ (z : Node). z.item.production) is in omega (arith, q, e))), refl), refl)))
      triple-row _ _ _ _ (closes s p d t X q u r h symbol at left begins) m low is =
          let c = triple-contained s p d t h in
          let a = laid.has s (item p d) c.0 c.1 in
          let there = a.1 in
          let below : a.0 < n = omega (arith, there, all) in
          let symbol' : symbol_of g (node_at nodes a.0).item ≡ Some X = ap (λ (z : Node). symbol_of g z.item) a.2 ∙ symbol in
          let o : OpensTo g nodes a.0 m = (X, symbol', ap (λ (z : Node). z.state) is ∙ sym (ap (λ (z : Node). z.state) a.2), (ap (λ (z : Node). z.item.dot) is, subst (HasLeft g.rules X) (sym (ap (λ (z : Node). z.item.production) is)) (r, at, left))) in
          let rest : rest_of g (node_at nodes a.0).item ≡ drop (suc d) (right_of g p) = ap (λ (z : Node). rest_of g z.item) a.2 in
          elim (begins-firsts g (drop (suc d) (right_of g p)) t u begins) [
            | inl f ↦ holds-start (slice_index slots m) u ((seeds (slice_index slots m) u).1 (inr (a.0, below, (m, in-slots m low, (o, subst (λ l. Firsts g l u) (sym rest) f), refl))))
            | inr null ↦ subst (Holds rows (slice_index slots m)) (sym null.1) (holds-flow a.0 m t there low (inr (o, subst (Grown g.rules 0) (sym rest) null.0)) (triple-row s p d t h a.0 there a.2))
          ]
      triple-row _ _ _ _ (steps s v p d t X h symbol e) m low is =
          let c = triple-contained s p d t h in
          let a = laid.has s (item p d) c.0 c.1 in
          let there = a.1 in
          let symbol' : symbol_of g (node_at nodes a.0).item ≡ Some X = ap (λ (z : Node). symbol_of g z.item) a.2 ∙ symbol in
          let to : node_at nodes m ≡ node (goto moves (node_at nodes a.0).state X) (moved (node_at nodes a.0).item) = is ∙ (λ i. node ((e ∙ ap (λ (z : Node). goto moves z.state X) (sym a.2)) i) (moved (sym a.2 i).item)) in
          holds-flow a.0 m t there low (inl (X, symbol', to)) (triple-row s p d t h a.0 there a.2)

      pub rows-exact : AreLookaheads g moves nodes (map (row_of rows) slots)
      rows-exact m t l =
          let is : row_of (map (row_of rows) slots) m ≡ row_of rows (slice_index slots m) = get_or-map (row_of rows) slots m 0 [] (in-slots m l) in (
            λ h. row-triple (slice_index slots m) t (subst (λ r. Has r t) is h) m l refl,
            λ h. subst (λ r. Has r t) (sym is) (triple-row (node_at nodes m).state (node_at nodes m).item.production (node_at nodes m).item.dot t h m l refl),
          )
