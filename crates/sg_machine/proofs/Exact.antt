-- What tables do along a prefix for which items are valid.
use Rattle.std.proofs.Common.{◌≡◌, ℕ, zero, suc, ◌+◌, ◌<◌, ◌≤◌, List, [], ◌∷◌, ◌++◌, length, drop, refl, ap, ◌∙◌, arith, Option, Some, None}
use Rattle.std.specs.Prelude.{slice_get, option_map, unwrap_or}
use Rattle.std.proofs.lemmas.Option.{none-some}
use Rattle.sg_grammar.specs.declared.grammar.Production.{Production}
use Rattle.sg_grammar.specs.Grammar.{Grammar, right_of, symbol_at}
use Rattle.sg_grammar.specs.WellFormed.{IsWellFormed}
use Rattle.sg_lalr.specs.declared.table.Action.TheVariants.{Shift, Reduce, Accept}
use Rattle.sg_lalr.specs.declared.items.Item.{Item}
use Rattle.sg_lalr.specs.Items.{item}
use Rattle.sg_lalr.specs.ValidItems.{Begins, behind, here, inside, Valid, start, close, step, InCore, Viable}
use Rattle.sg_lalr.specs.Automaton.{row_at}
use Rattle.sg_lalr.specs.Tables.{View, IsTables, IsCore, Decided}
use Rattle.sg_lalr.proofs.CoreLemmas.{before-step}
use Rattle.sg_lalr.proofs.TableLaws.{one_action}
use Rattle.sg_machine.specs.Machine.{state_behind}

-- a grammar for which an item is valid has an entry
has-entry : (g : Grammar) (w : List ℕ) (p d t : ℕ) → Valid g w p d t → 0 < length g.entries
has-entry g _ _ _ _ (start k p l e) = omega (arith, l)
has-entry g _ _ _ _ (close w p d t X q u r v a b c f) = has-entry g w p d t v
has-entry g _ _ _ _ (step w p d t X v a) = has-entry g w p d t v

begins-terminal : (g : Grammar) (Xs : List ℕ) (t u : ℕ) → Begins g Xs t u → t < g.terminals → u < g.terminals
begins-terminal g _ _ _ (behind t) l = l
begins-terminal g _ _ _ (here X Xs t h) l = h
begins-terminal g _ _ _ (inside q r X Xs t u a b c) l = begins-terminal g (r.right ++ Xs) t u c l

-- a lookahead is a terminal
pub look-terminal : (g : Grammar) → IsWellFormed g → (w : List ℕ) (p d t : ℕ) → Valid g w p d t → t < g.terminals
look-terminal g f _ _ _ _ (start k p l e) = let h = f.ends in omega (arith, h)
look-terminal g f _ _ _ _ (close w p d t X q u r v a b c s) = begins-terminal g (drop (suc d) (right_of g p)) t u s (look-terminal g f w p d t v)
look-terminal g f _ _ _ _ (step w p d t X v a) = look-terminal g f w p d t v

slice_get-left : {A : Type 0} (xs ys : List A) (k : ℕ) (x : A) → slice_get xs k ≡ Some x → slice_get (xs ++ ys) k ≡ Some x
slice_get-left [] ys k x h = absurd (none-some x h)
slice_get-left (y ∷ xs) ys zero x h = h
slice_get-left (y ∷ xs) ys (suc k) x h = slice_get-left xs ys k x h

slice_get-right : {A : Type 0} (xs ys : List A) (k p : ℕ) → p ≡ length xs + k → slice_get (xs ++ ys) p ≡ slice_get ys k
slice_get-right [] ys k p e = ap (slice_get ys) (omega (arith, e))
slice_get-right (y ∷ xs) ys k zero e = absurd (omega (arith, e))
slice_get-right (y ∷ xs) ys k (suc p) e = slice_get-right xs ys k p (omega (arith, e))

abbrev right_in : Option Production → List ℕ
right_in o = unwrap_or (option_map (λ (r : Production). r.right) o) []

-- the right side of a rule, and that of a start production
pub right_of-rule : (g : Grammar) (p : ℕ) (r : Production) → slice_get g.rules p ≡ Some r → right_of g p ≡ r.right
right_of-rule g p r h = ap right_in (slice_get-left g.rules g.entries p r h)

pub right_of-entry : (g : Grammar) (k p : ℕ) (r : Production) → p ≡ length g.rules + k → slice_get g.entries k ≡ Some r → right_of g p ≡ r.right
right_of-entry g k p r e h = ap right_in (slice_get-right g.rules g.entries k p e ∙ h)

pub same-items : (g : Grammar) (w h : List ℕ) (core : List Item) → IsCore g w core → IsCore g h core → (p d : ℕ) → InCore g w p d → InCore g h p d
same-items g w h core a b p d x = (b.1 p d).0 ((a.1 p d).1 x)

module _ (v : View) (tables : IsTables v) (m : Decided v) where
  -- the state behind a viable prefix is its core
  pub core-at : (w : List ℕ) → Viable v.grammar w → (state_behind m w < length v.cores) × IsCore v.grammar w (row_at v.cores (state_behind m w))
  core-at [] h = tables.first (has-entry v.grammar [] h.0 h.1 h.2.0 h.2.1)
  core-at (X ∷ w) h =
      let b = before-step v.grammar X w h.0 h.1 h.2.0 h.2.1 in
      let i = core-at w (b.0, b.1, b.2) in
      let l = m.leads (state_behind m w) X i.0 (item b.0 b.1, (i.1.1 b.0 b.1).1 b.2, b.3) in
      (l.0, l.1 w i.1)

  pub shifts : (w : List ℕ) (p d t X : ℕ) → Valid v.grammar w p d t → symbol_at v.grammar p d ≡ Some X → X < v.grammar.terminals → m.act (state_behind m w) X ≡ Shift (state_behind m (X ∷ w))
  shifts w p d t X x at low =
      let c = core-at w (p, d, (t, x)) in
      let s = state_behind m w in
      one_action v tables s X c.0 low (m.act s X) (Shift (m.go s X)) (m.acts s X c.0 low) (
        (item p d, λ h k. (at, same-items v.grammar w h (row_at v.cores s) c.1 k p d (t, x))),
        m.leads s X c.0 (item p d, (c.1.1 p d).1 (t, x), at),
      )

  pub reduces : (w : List ℕ) (p d t : ℕ) → Valid v.grammar w p d t → symbol_at v.grammar p d ≡ None → p < length v.grammar.rules → m.act (state_behind m w) t ≡ Reduce p
  reduces w p d t x at low =
      let c = core-at w (p, d, (t, x)) in
      let s = state_behind m w in
      let terminal = look-terminal v.grammar tables.formed w p d t x in
      let same = same-items v.grammar in
      one_action v tables s t c.0 terminal (m.act s t) (Reduce p) (m.acts s t c.0 terminal)
      (low, (item p d, λ h k. (refl, at, (w, λ q e. (same h w (row_at v.cores s) k c.1 q e, same w h (row_at v.cores s) c.1 k q e), x))))

  pub accepts : (w : List ℕ) (p d t : ℕ) → Valid v.grammar w p d t → symbol_at v.grammar p d ≡ None → length v.grammar.rules ≤ p → m.act (state_behind m w) t ≡ Accept
  accepts w p d t x at high =
      let c = core-at w (p, d, (t, x)) in
      let s = state_behind m w in
      let terminal = look-terminal v.grammar tables.formed w p d t x in
      let same = same-items v.grammar in
      one_action v tables s t c.0 terminal (m.act s t) Accept (m.acts s t c.0 terminal)
      (p, high, (item p d, λ h k. (refl, at, (w, λ q e. (same h w (row_at v.cores s) k c.1 q e, same w h (row_at v.cores s) c.1 k q e), x))))
