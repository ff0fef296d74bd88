-- Conflicts of prefixes are those of their states.
use Rattle.std.proofs.Common.{◌≡◌, ◌≢◌, ℕ, suc, ◌+◌, ◌<◌, ◌≤◌, ◌⊎◌, inl, inr, Bool, List, [], ◌∷◌, length, get_or, sym, ap, ◌∙◌, subst, arith, None}
use Rattle.std.specs.Prelude.{Contains, slice_get, slice_index}
use Rattle.std.proofs.lemmas.Bool.{cases_lt}
use Rattle.std.proofs.lemmas.Option.{none-some, slice_get_within, slice_get-get_or}
use Rattle.sg_sets.specs.Rows.{Holds}
use Rattle.sg_grammar.specs.Grammar.{Grammar, right_of}
use Rattle.sg_grammar.specs.WellFormed.{IsWellFormed}
use Rattle.sg_grammar.specs.Derives.{AllProductive}
use Rattle.sg_lalr.specs.declared.states.Move.{Move}
use Rattle.sg_lalr.specs.declared.states.Origin.{Origin}
use Rattle.sg_lalr.specs.declared.lookaheads.Node.{Node}
use Rattle.sg_lalr.specs.declared.conflict.Deed.{Deed}
use Rattle.sg_lalr.specs.declared.conflict.Deed.TheVariants.{Shifts, Reduces}
use Rattle.sg_lalr.specs.ValidItems.{Valid, start, close, step, InCore, Viable, Looks}
use Rattle.sg_lalr.specs.Items.{Item, item, Before, symbol_of}
use Rattle.sg_lalr.specs.Automaton.{row_at, IsWhole, state_of, FoundBy}
use Rattle.sg_lalr.specs.Prefixes.{Less}
use Rattle.sg_lalr.specs.Lookaheads.{Triple, node, node_at, IsLaid, AreLookaheads}
use Rattle.sg_lalr.specs.Conflict.{Acts, Conflict, LeastConflict, IsQuiet}
use Rattle.sg_lalr.specs.Clashes.{Does, Clashes, IsApart}
use Rattle.sg_lalr.proofs.RisingLemmas.{Before-itself, Before-irreflexive}
use Rattle.sg_lalr.proofs.StateLemmas.{less-then, found-some, found-state, found-viable, found-same, found-less, found-least, core-of-state, state-of-viable, same-state, same-core}
use Rattle.sg_lalr.proofs.LookLemmas.{triple-complete, triple-sound, in-range, range-below, has-triple}

less-itself : (u : List ℕ) → Less u u → ⊥
less-itself [] h = h
less-itself (X ∷ u) (inl h) = less-itself u h
less-itself (X ∷ u) (inr h) = let l = h.1 in omega (arith, l)

pub valid-dot : (g : Grammar) (w : List ℕ) (p d t : ℕ) → Valid g w p d t → d ≤ length (right_of g p)
valid-dot g _ _ _ _ (start k p l e) = omega arith
valid-dot g _ _ _ _ (close w p d t X q u r v a b c f) = omega arith
valid-dot g _ _ _ _ (step w p d t X v a) = let l = slice_get_within (right_of g p) d X a in omega (arith, l)

none-past : (xs : List ℕ) (n : ℕ) → slice_get xs n ≡ None → length xs ≤ n
none-past xs n e = elim (cases_lt n (length xs)) [ inl low ↦ absurd (none-some (get_or xs n 0) (sym e ∙ slice_get-get_or xs n 0 low)) | inr high ↦ high ]

module _ (g : Grammar) (formed : IsWellFormed g) (productive : AllProductive g) (entry : 0 < length g.entries)
    (kernels cores : List (List Item)) (moves : List (List Move)) (origins : List Origin) (whole : IsWhole g kernels cores moves origins)
    (nodes : List Node) (firsts : List ℕ) (laid : IsLaid cores nodes firsts) (rows : List (List Bool)) (looks : AreLookaheads g moves nodes rows) where
  abbrev from : ℕ → ℕ
  from s = slice_index firsts s

  abbrev to : ℕ → ℕ
  to s = slice_index firsts (suc s)

  -- a node of a state stands with its item in the core
  abbrev pub Holds-node : ℕ → Item → ℕ → Type 0
  Holds-node s i m = (slice_index firsts s ≤ m) × (m < slice_index firsts (suc s)) × (node_at nodes m ≡ node s i)

  low-state : (w : List ℕ) → Viable g w → state_of moves w < length cores
  low-state w v = let l = (state-of-viable g formed productive entry kernels cores moves origins whole w v).0 in let c = whole.cored in omega (arith, l, c)

  core-node : (w : List ℕ) (i : Item) → Viable g w → InCore g w i.production i.dot → (m : ℕ) × Holds-node (state_of moves w) i m
  core-node w i v c =
      let s = state_of moves w in
      let low = low-state w v in
      let has = laid.has s i low ((core-of-state g formed productive entry kernels cores moves origins whole w v i.production i.dot).1 c) in
      let r = in-range cores nodes firsts laid s has.0 low has.1 (ap (λ (n : Node). n.state) has.2) in
      (has.0, (r.0, r.1, has.2))

  node-core : (w : List ℕ) (m : ℕ) → Viable g w → slice_index firsts (state_of moves w) ≤ m → m < slice_index firsts (suc (state_of moves w)) → InCore g w (node_at nodes m).item.production (node_at nodes m).item.dot
  node-core w m v l h =
      let s = state_of moves w in
      let low = low-state w v in
      let there = range-below cores nodes firsts laid s m low h in
      let c = laid.contained m there in
      (core-of-state g formed productive entry kernels cores moves origins whole w v (node_at nodes m).item.production (node_at nodes m).item.dot).0 (subst (λ t. Contains (row_at cores t) (node_at nodes m).item) (laid.here s m low l h) c)

  acts-in : (w : List ℕ) (t : ℕ) (i : Item) (a : Deed) → Acts g w t i a → InCore g w i.production i.dot
  acts-in w t i Shifts h = h.1
  acts-in w t i (Reduces p) h = (h.2.1 i.production i.dot).1 (t, h.2.2)

  acts-viable : (w : List ℕ) (t : ℕ) (i : Item) (a : Deed) → Acts g w t i a → Viable g w
  acts-viable w t i a h = (i.production, i.dot, acts-in w t i a h)

  looks-holds : (w : List ℕ) (t m : ℕ) (i : Item) → Viable g w → Holds-node (state_of moves w) i m → Looks g w i.production i.dot t → Holds rows m t
  looks-holds w t m i v h k =
      let at = same-state g formed productive entry kernels cores moves origins whole w k.0 v (i.production, i.dot, (t, k.2)) k.1 in
      let there = range-below cores nodes firsts laid (state_of moves w) m (low-state w v) h.1 in
      (looks m t there).1 (subst (λ (n : Node). Triple g moves n.state n.item.production n.item.dot t) (sym h.2) (subst (λ s. Triple g moves s i.production i.dot t) (sym at) (triple-complete g moves k.0 i.production i.dot t k.2)))

  holds-looks : (w : List ℕ) (t m : ℕ) → Viable g w → slice_index firsts (state_of moves w) ≤ m → m < slice_index firsts (suc (state_of moves w)) → Holds rows m t → Looks g w (node_at nodes m).item.production (node_at nodes m).item.dot t
  holds-looks w t m v l h k =
      let n = node_at nodes m in
      let low = low-state w v in
      let there = range-below cores nodes firsts laid (state_of moves w) m low h in
      let r = triple-sound g moves n.state n.item.production n.item.dot t ((looks m t there).0 k) in
      let viable : Viable g r.0 = (n.item.production, n.item.dot, (t, r.2)) in
      (r.0, same-core g formed productive entry kernels cores moves origins whole w r.0 v viable (sym (laid.here (state_of moves w) m low l h) ∙ sym r.1), r.2)

  pub acts-does : (w : List ℕ) (t : ℕ) (i : Item) (a : Deed) → Acts g w t i a → (m : ℕ) × Holds-node (state_of moves w) i m × Does g nodes rows t m a
  acts-does w t i Shifts h =
      let m = core-node w i (acts-viable w t i Shifts h) h.1 in
      (m.0, m.1, ap (λ (n : Node). symbol_of g n.item) m.1.2 ∙ h.0)
  acts-does w t i (Reduces p) h =
      let v = acts-viable w t i (Reduces p) h in
      let m = core-node w i v (acts-in w t i (Reduces p) h) in
      (m.0, m.1, (h.0 ∙ sym (ap (λ (n : Node). n.item.production) m.1.2), ap (λ (n : Node). symbol_of g n.item) m.1.2 ∙ h.1, looks-holds w t m.0 i v m.1 h.2))

  pub does-acts : (w : List ℕ) (t m : ℕ) (a : Deed) → Viable g w → slice_index firsts (state_of moves w) ≤ m → m < slice_index firsts (suc (state_of moves w)) → Does g nodes rows t m a → Acts g w t (node_at nodes m).item a
  does-acts w t m Shifts v l h d = (d, node-core w m v l h)
  does-acts w t m (Reduces p) v l h d = (d.0, d.1, holds-looks w t m v l h d.2)

  pub conflict-clashes : (w : List ℕ) (t : ℕ) → Conflict g w t → Clashes g nodes rows (slice_index firsts (state_of moves w)) (slice_index firsts (suc (state_of moves w))) t
  conflict-clashes w t c =
      let m = acts-does w t c.one c.does c.acts in
      let n = acts-does w t c.other c.differs c.acts_too in
      record { terminal = c.terminal; one = m.0; other = n.0; does = c.does; differs = c.differs; one_above = m.1.0; one_below = m.1.1; other_above = n.1.0; other_below = n.1.1; acts = m.2; acts_too = n.2; different = c.different }

  pub conflict-viable : (w : List ℕ) (t : ℕ) → Conflict g w t → Viable g w
  conflict-viable w t c = acts-viable w t c.one c.does c.acts

  -- nodes of one state stand in the order of their items
  pub nodes-rising : (s m n : ℕ) → s < length cores → slice_index firsts s ≤ m → m < n → n < slice_index firsts (suc s) → Before (node_at nodes m).item (node_at nodes n).item
  nodes-rising s m n low l k h =
      let high : m < slice_index firsts (suc s) = omega (arith, k, h) in
      let above : slice_index firsts s ≤ n = omega (arith, l, k) in
      let p = laid.placed m (range-below cores nodes firsts laid s m low high) in
      let q = laid.placed n (range-below cores nodes firsts laid s n low h) in
      let sm = laid.here s m low l high in
      let sn = laid.here s n low above h in
      let at-m : m ≡ slice_index firsts s + p.0 = subst (λ z. m ≡ slice_index firsts z + p.0) sm p.1 in
      let at-n : n ≡ slice_index firsts s + q.0 = subst (λ z. n ≡ slice_index firsts z + q.0) sn q.1 in
      let in-n : q.0 < length (row_at cores s) = subst (λ z. q.0 < length (row_at cores z)) sn q.2 in
      let is-m : get_or (row_at cores s) p.0 (item 0 0) ≡ (node_at nodes m).item = subst (λ z. get_or (row_at cores z) p.0 (item 0 0) ≡ (node_at nodes m).item) sm p.3 in
      let is-n : get_or (row_at cores s) q.0 (item 0 0) ≡ (node_at nodes n).item = subst (λ z. get_or (row_at cores z) q.0 (item 0 0) ≡ (node_at nodes n).item) sn q.3 in
      subst (λ x. Before x (node_at nodes n).item) is-m (subst (Before (get_or (row_at cores s) p.0 (item 0 0))) is-n ((whole.part.closed s low).rising p.0 q.0 (item 0 0) (omega (arith, at-m, at-n, k)) in-n))

  pub nodes-apart : (s : ℕ) → s < length cores → IsApart g nodes (slice_index firsts s) (slice_index firsts (suc s))
  nodes-apart s low m n l k h e f same =
      let i = (node_at nodes m).item in
      let j = (node_at nodes n).item in
      let dot = λ (z : ℕ) (there : z < length nodes).
      let t = has-triple g kernels cores moves origins whole nodes firsts laid formed productive entry z there in
      let v = triple-sound g moves (node_at nodes z).state (node_at nodes z).item.production (node_at nodes z).item.dot t.0 t.1 in
      valid-dot g v.0 (node_at nodes z).item.production (node_at nodes z).item.dot t.0 v.2 in
      let a = dot m (range-below cores nodes firsts laid s m low (omega (arith, k, h))) in
      let b = dot n (range-below cores nodes firsts laid s n low h) in
      let c = none-past (right_of g i.production) i.dot e in
      let d = none-past (right_of g j.production) j.dot f in
      let long : length (right_of g i.production) ≡ length (right_of g j.production) = ap (λ p. length (right_of g p)) same in
      let dots : i.dot ≡ j.dot = omega (arith, a, b, c, d, long) in
      Before-itself j (subst (λ x. Before x j) (λ k'. item (same k') (dots k')) (nodes-rising s m n low l k h))

  -- a state without a conflict below which there is none has the least prefix with one
  pub least-conflict : (s t : ℕ) (w : List ℕ) → s < length cores → FoundBy origins s w → ((r u : ℕ) → r < s → Clashes g nodes rows (slice_index firsts r) (slice_index firsts (suc r)) u → ⊥) → ((u : ℕ) → Clashes g nodes rows (slice_index firsts s) (slice_index firsts (suc s)) u → t ≤ u) → t < g.terminals
      → (m n : ℕ) (a b : Deed) → slice_index firsts s ≤ m → m < slice_index firsts (suc s) → slice_index firsts s ≤ n → n < slice_index firsts (suc s) → Does g nodes rows t m a → Does g nodes rows t n b → b ≢ a
      → ((k : ℕ) (c : Deed) → slice_index firsts s ≤ k → k < m → Does g nodes rows t k c → ⊥) → ((k : ℕ) (c : Deed) → slice_index firsts s ≤ k → k < n → Does g nodes rows t k c → c ≡ a)
      → LeastConflict g w t (node_at nodes m).item (node_at nodes n).item
  least-conflict s t w low f below least terminal m n a b lm hm ln hn da db apart first second = record {
    least_prefix = λ h u c less.
        let v = conflict-viable h u c in
        let r = state_of moves h in
        let clash = conflict-clashes h u c in
        let l = found-some g formed productive entry kernels cores moves origins whole.part r (state-of-viable g formed productive entry kernels cores moves origins whole h v).0 in
        let le = found-least g formed productive entry kernels cores moves origins whole h l.0 v l.1 in
        elim (cases_lt r s) [
          | inl under ↦ below r u under clash
          | inr over ↦
              let w-less : Less w h ⊎ (w ≡ h) = elim (cases_lt s r) [
                | inl more ↦
                    let wl = found-less g formed productive entry kernels cores moves origins whole.part s r w l.0 more f l.1 in
                    elim le [ inl is ↦ inl (subst (Less w) is wl) | inr k ↦ inl (less-then w l.0 h wl k) ]
                | inr ge ↦
                    let one : w ≡ l.0 = found-same g formed productive entry kernels cores moves origins whole.part s r w l.0 (omega (arith, over, ge)) f l.1 in
                    elim le [ inl is ↦ inr (one ∙ is) | inr k ↦ inl (subst (λ z. Less z h) (sym one) k) ]
              ] in
              elim w-less [ inl k ↦ less-itself w (less-then w h w k less) | inr is ↦ less-itself w (subst (λ z. Less z w) (sym is) less) ]
        ];
    least_terminal = λ u c. least u (subst (λ z. Clashes g nodes rows (slice_index firsts z) (slice_index firsts (suc z)) u) at (conflict-clashes w u c));
    terminal = terminal;
    does = a;
    acts = does-acts w t m a viable (subst (λ z. slice_index firsts z ≤ m) (sym at) lm) (subst (λ z. m < slice_index firsts (suc z)) (sym at) hm) da;
    first = λ k c before acts.
        let d = acts-does w t k c acts in
        let here = subst (λ z. Holds-node z k d.0) at d.1 in
        let is = ap (λ (z : Node). z.item) here.2 in
        elim (cases_lt d.0 m) [
          | inl early ↦ first d.0 c here.0 early d.2
          | inr late ↦ elim (cases_lt m d.0) [
            | inl later ↦ Before-irreflexive k (node_at nodes m).item before (subst (Before (node_at nodes m).item) is (nodes-rising s m d.0 low lm later here.1))
            | inr ge ↦ Before-itself k (subst (Before k) (sym (sym is ∙ ap (λ z. (node_at nodes z).item) (let e : d.0 ≡ m = omega (arith, late, ge) in e))) before)
          ]
        ];
    differs = b;
    acts_too = does-acts w t n b viable (subst (λ z. slice_index firsts z ≤ n) (sym at) ln) (subst (λ z. n < slice_index firsts (suc z)) (sym at) hn) db;
    different = apart;
    second = λ k c before acts.
        let d = acts-does w t k c acts in
        let here = subst (λ z. Holds-node z k d.0) at d.1 in
        let is = ap (λ (z : Node). z.item) here.2 in
        elim (cases_lt d.0 n) [
          | inl early ↦ second d.0 c here.0 early d.2
          | inr late ↦ elim (cases_lt n d.0) [
            | inl later ↦ absurd (Before-irreflexive k (node_at nodes n).item before (subst (Before (node_at nodes n).item) is (nodes-rising s n d.0 low ln later here.1)))
            | inr ge ↦ absurd (Before-itself k (subst (Before k) (sym (sym is ∙ ap (λ z. (node_at nodes z).item) (let e : d.0 ≡ n = omega (arith, late, ge) in e))) before))
          ]
        ];
  }
    where
      at : state_of moves w ≡ s
      at = found-state g formed productive entry kernels cores moves origins whole s w f

      viable : Viable g w
      viable = found-viable g formed productive entry kernels cores moves origins whole.part s w f

  pub quiet : ((r u : ℕ) → r < length cores → Clashes g nodes rows (slice_index firsts r) (slice_index firsts (suc r)) u → ⊥) → IsQuiet g
  quiet none w t c = none (state_of moves w) t (low-state w (conflict-viable w t c)) (conflict-clashes w t c)
