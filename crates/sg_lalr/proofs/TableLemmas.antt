-- Tables are those of their grammar.
use Rattle.std.proofs.Common.{◌≡◌, ◌≢◌, ℕ, zero, suc, ◌+◌, ◌<◌, ◌≤◌, inl, inr, Bool, List, [], ◌∷◌, length, refl, sym, ap, ◌∙◌, subst, arith, Option, Some, None}
use Rattle.std.specs.Prelude.{All, Contains, slice_index, IfSome, IfNone}
use Rattle.std.proofs.lemmas.Bool.{cases_lt}
use Rattle.sg_grammar.specs.Grammar.{Grammar}
use Rattle.sg_grammar.specs.WellFormed.{IsWellFormed}
use Rattle.sg_grammar.specs.Derives.{AllProductive}
use Rattle.sg_lalr.specs.declared.states.Move.{Move}
use Rattle.sg_lalr.specs.declared.states.Origin.{Origin}
use Rattle.sg_lalr.specs.declared.lookaheads.Node.{Node}
use Rattle.sg_lalr.specs.declared.conflict.Deed.{Deed}
use Rattle.sg_lalr.specs.declared.conflict.Deed.TheVariants.{Shifts, Reduces}
use Rattle.sg_lalr.specs.declared.table.Action.TheVariants as action
use Rattle.sg_lalr.specs.ValidItems.{Valid, start, close, step, Viable, SameCore}
use Rattle.sg_lalr.specs.Items.{Item, item, HasNext, symbol_of, advance}
use Rattle.sg_lalr.specs.Automaton.{row_at, moves_at, move_at, leads_to, goto, starts_from, start_items, IsSorted, IsWhole, state_of}
use Rattle.sg_lalr.specs.Prefixes.{TooMany}
use Rattle.sg_lalr.specs.Lookaheads.{node_at}
use Rattle.sg_lalr.specs.Conflict.{Acts, IsQuiet}
use Rattle.sg_lalr.specs.Clashes.{Does}
use Rattle.sg_lalr.specs.Tables.{viewed, IsCore, IsTables, Leads, ActsIn, IsAction, IsFull, IsMade, IsKept}
use Rattle.sg_lalr.specs.Reductions.{Reduction, ReducesBy, reductions_at}
use Rattle.sg_lalr.proofs.RisingLemmas.{advance-from}
use Rattle.sg_lalr.proofs.PlaceLemmas.{target-none}
use Rattle.sg_lalr.proofs.CoreLemmas.{CoreOf}
use Rattle.sg_lalr.proofs.StateLemmas.{longer-viable, found-some, found-state, found-viable, core-of-state, state-of-viable, same-state}
use Rattle.sg_lalr.proofs.LookLemmas.{in-range, range-below}
use Rattle.sg_lalr.proofs.ConflictLemmas.{acts-does, does-acts}

valid-entry : (g : Grammar) (w : List ℕ) (p d t : ℕ) → Valid g w p d t → 0 < length g.entries
valid-entry g _ _ _ _ (start k p l e) = omega (arith, l)
valid-entry g _ _ _ _ (close w p d t X q u r v a b c f) = valid-entry g w p d t v
valid-entry g _ _ _ _ (step w p d t X v a) = valid-entry g w p d t v

pub viable-entry : (g : Grammar) (w : List ℕ) → Viable g w → 0 < length g.entries
viable-entry g w v = valid-entry g w v.0 v.1 v.2.0 v.2.1

acts-entry : (g : Grammar) (w : List ℕ) (t : ℕ) (i : Item) (a : Deed) → Acts g w t i a → 0 < length g.entries
acts-entry g w t i Shifts h = valid-entry g w i.production i.dot h.1.0 h.1.1
acts-entry g w t i (Reduces p) h = valid-entry g h.2.0 i.production i.dot t h.2.2

all-entry : (g : Grammar) (ws : List (List ℕ)) → 0 < length ws → All (Viable g) ws → 0 < length g.entries
all-entry g [] l h = omega (arith, l)
all-entry g (w ∷ ws) l h = viable-entry g w (h 0 w (omega arith))

-- without an entry there is no state and no conflict
pub few-without : (g : Grammar) → length g.entries ≡ 0 → TooMany g → ⊥
few-without g none many = let l = all-entry g many.prefixes (let m = many.many in omega (arith, m)) many.viable in omega (arith, l, none)

pub quiet-without : (g : Grammar) → length g.entries ≡ 0 → IsQuiet g
quiet-without g none w t c = let l = acts-entry g w t c.one c.does c.acts in omega (arith, l, none)

module _ (g : Grammar) (formed : IsWellFormed g) (productive : AllProductive g) (entry : 0 < length g.entries)
    (kernels cores : List (List Item)) (moves : List (List Move)) (origins : List Origin) (whole : IsWhole g kernels cores moves origins) where
  low-kernel : (s : ℕ) → s < length cores → s < length kernels
  low-kernel s l = let c = whole.cored in omega (arith, c, l)

  -- a prefix whose core the items of a state are leads to the state
  pub at-state : (s : ℕ) (w : List ℕ) → s < length cores → CoreOf g w (row_at cores s) → Viable g w × (state_of moves w ≡ s)
  at-state s w low c =
      let f = found-some g formed productive entry kernels cores moves origins whole.part s (low-kernel s low) in
      let v = found-viable g formed productive entry kernels cores moves origins whole.part s f.0 f.1 in
      let at = found-state g formed productive entry kernels cores moves origins whole s f.0 f.1 in
      let core : CoreOf g f.0 (row_at cores s) = subst (λ z. CoreOf g f.0 (row_at cores z)) at (core-of-state g formed productive entry kernels cores moves origins whole f.0 v) in
      let same : SameCore g w f.0 = λ p d. (λ h. (core p d).0 ((c p d).1 h), λ h. (c p d).0 ((core p d).1 h)) in
      let viable : Viable g w = (v.0, v.1, (same v.0 v.1).1 v.2) in
      (viable, same-state g formed productive entry kernels cores moves origins whole w f.0 viable v same ∙ at)

  pub core-there : (w : List ℕ) → Viable g w → (state_of moves w < length cores) × IsCore g w (row_at cores (state_of moves w))
  core-there w v =
      let i = state-of-viable g formed productive entry kernels cores moves origins whole w v in
      let low : state_of moves w < length cores = (let c = whole.cored in let l = i.0 in omega (arith, c, l)) in
      (low, ((whole.part.closed (state_of moves w) low).rising, core-of-state g formed productive entry kernels cores moves origins whole w v))

  pub core-found : (s : ℕ) → s < length cores → (w : List ℕ) × Viable g w × IsCore g w (row_at cores s)
  core-found s low =
      let f = found-some g formed productive entry kernels cores moves origins whole.part s (low-kernel s low) in
      let v = found-viable g formed productive entry kernels cores moves origins whole.part s f.0 f.1 in
      let at = found-state g formed productive entry kernels cores moves origins whole s f.0 f.1 in
      (f.0, v, subst (λ z. IsCore g f.0 (row_at cores z)) at (core-there f.0 v).1)

  pub cores-differ : (s u : ℕ) → s < u → u < length cores → row_at cores s ≢ row_at cores u
  cores-differ s u l k same =
      let f = core-found s (omega (arith, l, k)) in
      let a = at-state s f.0 (omega (arith, l, k)) f.2.1 in
      let b = at-state u f.0 k (subst (CoreOf g f.0) same f.2.1) in
      let c = a.1 in
      let d = b.1 in
      omega (arith, l, c, d)

  pub leads-to : (s X : ℕ) → s < length cores → HasNext g (row_at cores s) X → Leads (viewed g cores) s X (goto moves s X)
  leads-to s X low h =
      let b = whole.part.leads s X (let m = whole.moved in let c = whole.cored in omega (arith, m, c, low)) h in (
        (let c = whole.cored in let l = b.0 in omega (arith, c, l)),
        λ w c.
            let a = at-state s w low c.1 in
            let v = longer-viable g formed productive entry kernels cores moves origins whole.part w (row_at cores s) X c.1 h in
            subst (λ z. IsCore g (X ∷ w) (row_at cores (goto moves z X))) a.1 (core-there (X ∷ w) v).1,
      )

module _ (g : Grammar) (formed : IsWellFormed g) (productive : AllProductive g) (entry : 0 < length g.entries)
    (kernels cores : List (List Item)) (moves : List (List Move)) (origins : List Origin) (nodes : List Node) (firsts : List ℕ) (rows : List (List Bool))
    (full : IsFull g kernels cores moves origins nodes firsts rows) where
  pub acts-in-state : (s t m : ℕ) (a : Deed) → s < length cores → slice_index firsts s ≤ m → m < slice_index firsts (suc s) → Does g nodes rows t m a → ActsIn (viewed g cores) s t a
  acts-in-state s t m a low l h d = (
    (node_at nodes m).item,
    λ w c.
        let at = at-state g formed productive entry kernels cores moves origins full.whole s w low c.1 in
        does-acts g formed productive entry kernels cores moves origins full.whole nodes firsts full.laid rows full.exact w t m a at.0 (subst (λ z. slice_index firsts z ≤ m) (sym at.1) l) (subst (λ z. m < slice_index firsts (suc z)) (sym at.1) h) d,
  )

  pub stops : (s t : ℕ) → s < length cores → ((k : ℕ) (a : Deed) → slice_index firsts s ≤ k → k < slice_index firsts (suc s) → Does g nodes rows t k a → ⊥) → IsAction (viewed g cores) s t action.Stop
  stops s t low none w i a c h =
      let at = at-state g formed productive entry kernels cores moves origins full.whole s w low c.1 in
      let d = acts-does g formed productive entry kernels cores moves origins full.whole nodes firsts full.laid rows full.exact w t i a h in
      none d.0 a (subst (λ z. slice_index firsts z ≤ d.0) at.1 d.1.0) (subst (λ z. d.0 < slice_index firsts (suc z)) at.1 d.1.1) d.2

  pub shifts-to : (s t m : ℕ) → s < length cores → slice_index firsts s ≤ m → m < slice_index firsts (suc s) → symbol_of g (node_at nodes m).item ≡ Some t → IsAction (viewed g cores) s t (action.Shift (goto moves s t))
  shifts-to s t m low l h d =
      let here = full.laid.here s m low l h in
      let c = full.laid.contained m (range-below cores nodes firsts full.laid s m low h) in
      (acts-in-state s t m Shifts low l h d, leads-to g formed productive entry kernels cores moves origins full.whole s t low ((node_at nodes m).item, subst (λ z. Contains (row_at cores z) (node_at nodes m).item) here c, d))

-- what tables keep is what they promise
pub are-tables : (g : Grammar) → IsWellFormed g → (kernels cores : List (List Item)) (moves : List (List Move)) (origins : List Origin) (nodes : List Node) (firsts : List ℕ) (rows : List (List Bool)) → IsMade g kernels cores moves origins nodes firsts rows → IsTables (viewed g cores)
are-tables g formed kernels cores moves origins nodes firsts rows made = record {
  formed = formed;
  productive = made.productive;
  first = λ entry.
      let c = core-there g formed made.productive entry kernels cores moves origins (made.full entry).whole [] (length g.rules + 0, zero, (zero, start 0 (length g.rules + 0) entry refl)) in
      (c.0, c.1);
  none = made.none;
  realized = λ s l. core-found g formed made.productive (some s l) kernels cores moves origins (made.full (some s l)).whole s l;
  complete = λ w v.
      let entry = viable-entry g w v in
      let c = core-there g formed made.productive entry kernels cores moves origins (made.full entry).whole w v in
      (state_of moves w, c.0, c.1);
  distinct = λ s u l k. cores-differ g formed made.productive (some u k) kernels cores moves origins (made.full (some u k)).whole s u l k;
  quiet = elim (cases_lt 0 (length g.entries)) [ inl entry ↦ (made.full entry).quiet | inr none ↦ quiet-without g (omega (arith, none)) ];
}
  where
    some : (s : ℕ) → s < length cores → 0 < length g.entries
    some s l = elim (cases_lt 0 (length g.entries)) [ inl entry ↦ entry | inr none ↦ (let e = ap length (made.none (omega (arith, none))) in omega (arith, l, e)) ]

pub made-some : (g : Grammar) (kernels cores : List (List Item)) (moves : List (List Move)) (origins : List Origin) (nodes : List Node) (firsts : List ℕ) (rows : List (List Bool)) → IsMade g kernels cores moves origins nodes firsts rows → (s : ℕ) → s < length cores → 0 < length g.entries
made-some g kernels cores moves origins nodes firsts rows made s l = elim (cases_lt 0 (length g.entries)) [ inl entry ↦ entry | inr none ↦ (let e = ap length (made.none (omega (arith, none))) in omega (arith, l, e)) ]

first-item : (p n : ℕ) → 0 < n → Contains (starts_from p n) (item p 0)
first-item p zero l = absurd (omega (arith, l))
first-item p (suc n) l = (0, omega arith, refl)

-- what the tables of a grammar keep
module _ (g : Grammar) (formed : IsWellFormed g) (cores : List (List Item)) (moves : List (List Move)) (reductions : List (List Reduction)) (kept : IsKept g cores moves reductions) (s : ℕ) (low : s < length cores) where
  entry : 0 < length g.entries
  entry = made-some g kept.kernels cores moves kept.origins kept.nodes kept.firsts kept.rows kept.made s low

  full : IsFull g kept.kernels cores moves kept.origins kept.nodes kept.firsts kept.rows
  full = (kept.made).full entry

  pub moves-there : s < length moves
  moves-there = let w = full.whole in let m = w.moved in let c = w.cored in omega (arith, low, m, c)

  pub kept-sorted : IsSorted (moves_at moves s)
  kept-sorted = ((full.whole).part).sorted s moves-there

  pub kept-next : (k X : ℕ) → k < length (moves_at moves s) → (move_at (moves_at moves s) k).symbol ≡ X → HasNext g (row_at cores s) X
  kept-next k X l is = subst (HasNext g (row_at cores s)) is (((full.whole).part).only s moves-there k (record { symbol = 0; target = 0 }) l)

  pub kept-leads : (X : ℕ) → HasNext g (row_at cores s) X → Leads (viewed g cores) s X (goto moves s X)
  kept-leads X h = leads-to g formed (kept.made).productive entry kept.kernels cores moves kept.origins full.whole s X low h

  -- what has an item before it has a move
  pub kept-moves : (X : ℕ) → HasNext g (row_at cores s) X → ((k : ℕ) → k < length (moves_at moves s) → (move_at (moves_at moves s) k).symbol ≡ X → ⊥) → ⊥
  kept-moves X h none =
      let part = (full.whole).part in
      let b = (part.leads s X moves-there h).1 in
      let zeroth : goto moves s X ≡ 0 = target-none (moves_at moves s) X none in
      let same : start_items g ≡ advance g X (row_at cores s) = sym part.first ∙ ap (row_at kept.kernels) (sym zeroth) ∙ b in
      let f = advance-from g X (row_at cores s) (item (length g.rules) 0) (subst (λ l. Contains l (item (length g.rules) 0)) same (first-item (length g.rules) (length g.entries) entry)) in
      let dots = ap (λ (i : Item). i.dot) f.3 in
      omega (arith, dots)

  pub kept-shift : (t : ℕ) → HasNext g (row_at cores s) t → IsAction (viewed g cores) s t (action.Shift (goto moves s t))
  kept-shift t h =
      let n = (full.laid).has s h.0 low h.1 in
      let r = in-range cores kept.nodes kept.firsts full.laid s n.0 low n.1 (ap (λ (z : Node). z.state) n.2) in
      shifts-to g formed (kept.made).productive entry kept.kernels cores moves kept.origins kept.nodes kept.firsts kept.rows full s t n.0 low r.0 r.1 (ap (λ (z : Node). symbol_of g z.item) n.2 ∙ h.2)

  pub kept-acts : (p t : ℕ) → ReducesBy (reductions_at reductions s) p t → ActsIn (viewed g cores) s t (Reduces p)
  kept-acts p t h =
      let d = (kept.reduces s p t low).0 h in
      acts-in-state g formed (kept.made).productive entry kept.kernels cores moves kept.origins kept.nodes kept.firsts kept.rows full s t d.0 (Reduces p) low d.1 d.2 d.3

  kept-idle : (t : ℕ) → ((p : ℕ) → ReducesBy (reductions_at reductions s) p t → ⊥) → ((k : ℕ) → k < length (moves_at moves s) → (move_at (moves_at moves s) k).symbol ≡ t → ⊥) → (k : ℕ) (a : Deed) → slice_index kept.firsts s ≤ k → k < slice_index kept.firsts (suc s) → Does g kept.nodes kept.rows t k a → ⊥
  kept-idle t quiet still k Shifts l h d =
      let here = (full.laid).here s k low l h in
      let c = (full.laid).contained k (range-below cores kept.nodes kept.firsts full.laid s k low h) in
      kept-moves t ((node_at kept.nodes k).item, subst (λ z. Contains (row_at cores z) (node_at kept.nodes k).item) here c, d) still
  kept-idle t quiet still k (Reduces p) l h d = quiet p ((kept.reduces s p t low).1 (k, l, h, d))

  pub kept-stop : (t : ℕ) → ((p : ℕ) → ReducesBy (reductions_at reductions s) p t → ⊥) → ((k : ℕ) → k < length (moves_at moves s) → (move_at (moves_at moves s) k).symbol ≡ t → ⊥) → IsAction (viewed g cores) s t action.Stop
  kept-stop t quiet still = stops g formed (kept.made).productive entry kept.kernels cores moves kept.origins kept.nodes kept.firsts kept.rows full s t low (kept-idle t quiet still)

  -- what a search among the moves found
  abbrev pub MovedOn : List Move → ℕ → ℕ → Type 0
  MovedOn row X u = (k : ℕ) × (k < length row) × ((move_at row k).symbol ≡ X) × (u ≡ leads_to row X)

  pub kept-after : (X : ℕ) (o : Option ℕ) (row : List Move) → row ≡ moves_at moves s → IfSome o (MovedOn row X) → IfSome o (λ u. HasNext g (row_at cores s) X × Leads (viewed g cores) s X u)
  kept-after X (Some u) row is h =
      let m = subst (λ r. MovedOn r X u) is h in
      let has = kept-next m.0 X m.1 m.2 in
      (has, subst (Leads (viewed g cores) s X) (sym m.3) (kept-leads X has))
  kept-after X None row is h = h

  pub kept-none : (X : ℕ) (o : Option ℕ) (row : List Move) → row ≡ moves_at moves s → IfNone o ((k : ℕ) → k < length row → (move_at row k).symbol ≡ X → ⊥) → IfNone o (HasNext g (row_at cores s) X → ⊥)
  kept-none X (Some u) row is h = h
  kept-none X None row is h = λ has. kept-moves X has (subst (λ r. (k : ℕ) → k < length r → (move_at r k).symbol ≡ X → ⊥) is h)

  -- the state to which a search among the moves leads is shifted to
  pub kept-shifts : (t u : ℕ) (row : List Move) → row ≡ moves_at moves s → MovedOn row t u → IsAction (viewed g cores) s t (action.Shift u)
  kept-shifts t u row is h =
      let m = subst (λ r. MovedOn r t u) is h in
      subst (λ v. IsAction (viewed g cores) s t (action.Shift v)) (sym m.3) (kept-shift t (kept-next m.0 t m.1 m.2))
