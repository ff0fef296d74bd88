-- A grammar has one fault of its tables at most, and none where it has tables.
use Rattle.std.proofs.Common.{◌≡◌, ◌≢◌, ℕ, ◌⊎◌, inl, inr, List, [], ◌∷◌, reverse, refl, sym, ap, ◌∙◌, subst, arith}
use Rattle.std.proofs.lemmas.Bool.{cases_order}
use Rattle.std.proofs.lemmas.List.{reverse-reverse}
use Rattle.std.proofs.lemmas.Option.{none-some}
use Rattle.sg_grammar.specs.Grammar.{Grammar}
use Rattle.sg_grammar.specs.Derives.{AllProductive, IsFirstUnproductive}
use Rattle.sg_lalr.specs.declared.conflict.Deed.{Deed}
use Rattle.sg_lalr.specs.declared.conflict.Deed.TheVariants.{Shifts, Reduces}
use Rattle.sg_lalr.specs.declared.table.TableFault.{TableFault}
use Rattle.sg_lalr.specs.declared.table.TableFault.TheVariants as fault
use Rattle.sg_lalr.specs.Items.{Item, item, Before}
use Rattle.sg_lalr.specs.Prefixes.{Less, TooMany}
use Rattle.sg_lalr.specs.Conflict.{Acts, Conflict, LeastConflict}
use Rattle.sg_lalr.specs.Tables.{View, IsTables, IsTableFault}

-- of two prefixes one is less, or they are equal
less_order : (u v : List ℕ) → (u ≡ v) ⊎ (Less u v ⊎ Less v u)
less_order [] [] = inl refl
less_order [] (Y ∷ v) = inr (inl tt)
less_order (X ∷ u) [] = inr (inr tt)
less_order (X ∷ u) (Y ∷ v) = elim (less_order u v) [
  | inl e ↦ elim (cases_order X Y) [
    | inl same ↦ inl (ap (λ z. z ∷ u) same ∙ ap (λ l. Y ∷ l) e)
    | inr apart ↦ elim apart [ inl l ↦ inr (inl (inr (e, l))) | inr g ↦ inr (inr (inr (sym e, g))) ]
  ]
  | inr apart ↦ elim apart [ inl l ↦ inr (inl (inl l)) | inr g ↦ inr (inr (inl g)) ]
]

-- the same of two items
item_order : (i j : Item) → (i ≡ j) ⊎ (Before i j ⊎ Before j i)
item_order i j = elim (cases_order i.production j.production) [
  | inl e ↦ elim (cases_order i.dot j.dot) [
    | inl same ↦ inl (ap (λ p. item p i.dot) e ∙ ap (λ d. item j.production d) same)
    | inr apart ↦ elim apart [ inl l ↦ inr (inl (inr (e, l))) | inr g ↦ inr (inr (inr (sym e, g))) ]
  ]
  | inr apart ↦ elim apart [ inl l ↦ inr (inl (inl l)) | inr g ↦ inr (inr (inl g)) ]
]

module _ (g : Grammar) where
  -- an item does one thing on a terminal
  pub one_deed : (w : List ℕ) (t : ℕ) (i : Item) (a b : Deed) → Acts g w t i a → Acts g w t i b → a ≡ b
  one_deed w t i Shifts Shifts x y = refl
  one_deed w t i Shifts (Reduces q) x y = absurd (none-some t (sym y.1 ∙ x.0))
  one_deed w t i (Reduces p) Shifts x y = absurd (none-some t (sym x.1 ∙ y.0))
  one_deed w t i (Reduces p) (Reduces q) x y = ap Reduces (x.0 ∙ sym y.0)

  as_conflict : (w : List ℕ) (t : ℕ) (i j : Item) → LeastConflict g w t i j → Conflict g w t
  as_conflict w t i j c = record { terminal = c.terminal; one = i; other = j; does = c.does; differs = c.differs; acts = c.acts; acts_too = c.acts_too; different = λ e. c.different (sym e) }

  same_prefix : (w v : List ℕ) (t u : ℕ) (i j k l : Item) → LeastConflict g w t i j → LeastConflict g v u k l → w ≡ v
  same_prefix w v t u i j k l c d = elim (less_order w v) [
    | inl e ↦ e
    | inr apart ↦ elim apart [
      | inl less ↦ absurd (d.least_prefix w t (as_conflict w t i j c) less)
      | inr more ↦ absurd (c.least_prefix v u (as_conflict v u k l d) more)
    ]
  ]

  same_terminal : (w : List ℕ) (t u : ℕ) (i j k l : Item) → LeastConflict g w t i j → LeastConflict g w u k l → t ≡ u
  same_terminal w t u i j k l c d = omega (arith, c.least_terminal u (as_conflict w u k l d), d.least_terminal t (as_conflict w t i j c))

  same_first : (w : List ℕ) (t : ℕ) (i j k l : Item) → LeastConflict g w t i j → LeastConflict g w t k l → i ≡ k
  same_first w t i j k l c d = elim (item_order i k) [
    | inl e ↦ e
    | inr apart ↦ elim apart [
      | inl before ↦ absurd (d.first i c.does before c.acts)
      | inr behind ↦ absurd (c.first k d.does behind d.acts)
    ]
  ]

  same_second : (w : List ℕ) (t : ℕ) (i j l : Item) → LeastConflict g w t i j → LeastConflict g w t i l → j ≡ l
  same_second w t i j l c d =
      let same = one_deed w t i c.does d.does c.acts d.acts in
      elim (item_order j l) [
        | inl e ↦ e
        | inr apart ↦ elim apart [
          | inl before ↦ absurd (c.different (d.second j c.differs before c.acts_too ∙ sym same))
          | inr behind ↦ absurd (d.different (c.second l d.differs behind d.acts_too ∙ same))
        ]
      ]

  -- a grammar has one least conflict at most
  pub one_conflict : (w v : List ℕ) (t u : ℕ) (i j k l : Item) → LeastConflict g w t i j → LeastConflict g v u k l → (w ≡ v) × (t ≡ u) × (i ≡ k) × (j ≡ l)
  one_conflict w v t u i j k l c d =
      let prefix = same_prefix w v t u i j k l c d in
      let d' = subst (λ z. LeastConflict g z u k l) (sym prefix) d in
      let terminal = same_terminal w t u i j k l c d' in
      let d'' = subst (λ z. LeastConflict g w z k l) (sym terminal) d' in
      let first = same_first w t i j k l c d'' in
      (prefix, terminal, first, same_second w t i j l c (subst (λ z. LeastConflict g w t z l) (sym first) d''))

  same_unproductive : (X Y : ℕ) → IsFirstUnproductive g X → IsFirstUnproductive g Y → X ≡ Y
  same_unproductive X Y a b = elim (cases_order X Y) [
    | inl e ↦ e
    | inr apart ↦ elim apart [ inl less ↦ absurd (a.derives_none (b.first X less)) | inr more ↦ absurd (b.derives_none (a.first Y more)) ]
  ]

  not_productive : (X : ℕ) → IsFirstUnproductive g X → AllProductive g → ⊥
  not_productive X a all = a.derives_none (all X a.within)

  pub one_fault : (e f : TableFault) → IsTableFault g e → IsTableFault g f → e ≢ fault.NoMemory → f ≢ fault.NoMemory → e ≡ f
  one_fault (fault.Unproductive X) (fault.Unproductive Y) x y m n = ap fault.Unproductive (same_unproductive X Y x y)
  one_fault (fault.Unproductive X) fault.States x y m n = absurd (not_productive X x y.0)
  one_fault (fault.Unproductive X) (fault.Conflict v u k l) x y m n = absurd (not_productive X x y.0)
  one_fault fault.States (fault.Unproductive Y) x y m n = absurd (not_productive Y y x.0)
  one_fault fault.States fault.States x y m n = refl
  one_fault fault.States (fault.Conflict v u k l) x y m n = absurd (y.1 x.1)
  one_fault (fault.Conflict w t i j) (fault.Unproductive Y) x y m n = absurd (not_productive Y y x.0)
  one_fault (fault.Conflict w t i j) fault.States x y m n = absurd (x.1 y.1)
  one_fault (fault.Conflict w t i j) (fault.Conflict v u k l) x y m n =
      let same = one_conflict (reverse w) (reverse v) t u i j k l x.2 y.2 in
      let prefix : w ≡ v = sym (reverse-reverse w) ∙ ap reverse same.0 ∙ reverse-reverse v in
      ap (λ z. fault.Conflict z t i j) prefix ∙ ap (λ z. fault.Conflict v z i j) same.1 ∙ ap (λ z. fault.Conflict v u z j) same.2 ∙ ap (λ z. fault.Conflict v u k z) same.3
  one_fault fault.NoMemory f x y m n = absurd (m refl)
  one_fault e fault.NoMemory x y m n = absurd (n refl)

-- a grammar with tables and not too many states has no fault
pub no_fault : (v : View) → IsTables v → (TooMany v.grammar → ⊥) → (e : TableFault) → IsTableFault v.grammar e → e ≢ fault.NoMemory → ⊥
no_fault v tables few (fault.Unproductive X) x m = not_productive v.grammar X x tables.productive
no_fault v tables few fault.States x m = few x.1
no_fault v tables few (fault.Conflict w t i j) x m = tables.quiet (reverse w) t (as_conflict v.grammar (reverse w) t i j x.2)
no_fault v tables few fault.NoMemory x m = m refl
