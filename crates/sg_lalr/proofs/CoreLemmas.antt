-- Cores and the kernels from which they are closed, where each symbol derives some tokens.
use Rattle.std.proofs.Common.{◌≡◌, ℕ, zero, suc, ◌+◌, ◌<◌, List, [], ◌∷◌, ◌++◌, length, get_or, drop, refl, sym, subst, arith, Some}
use Rattle.std.specs.Prelude.{◌↔◌, Contains, All}
use Rattle.std.proofs.lemmas.List.{append-nil}
use Rattle.std.proofs.lemmas.List.Elements.{All-drop, All-contains, All-head, All-tail}
use Rattle.std.proofs.lemmas.Option.{slice_get_within}
use Rattle.sg_grammar.specs.declared.grammar.Production.{Production}
use Rattle.sg_grammar.specs.Grammar.{Grammar, right_of, symbol_at}
use Rattle.sg_grammar.specs.WellFormed.{IsWellFormed}
use Rattle.sg_grammar.specs.Derives.{AllProductive}
use Rattle.sg_lalr.specs.Least.{Grown, nothing, passes, under}
use Rattle.sg_lalr.specs.ValidItems.{Begins, behind, here, inside, Valid, start, close, step, InCore, SameCore}
use Rattle.sg_lalr.specs.Items.{Item, item, advance}
use Rattle.sg_lalr.specs.Closure.{In, kept, opened, IsKernel, IsClosure}
use Rattle.sg_lalr.specs.Automaton.{start_items}
use Rattle.sg_lalr.proofs.RisingLemmas.{advance-from, advance-has, rising-same}
use Rattle.sg_lalr.proofs.StartLemmas.{starts-from, starts-has}
use Rattle.sg_lalr.proofs.MoveLemmas.{right_of-fits}
use Rattle.sg_lalr.proofs.ProductiveLemmas.{grown-productive}

pub grown-onto : (rules : List Production) (low X : ℕ) (Xs : List ℕ) → Grown rules low (X ∷ []) → Grown rules low Xs → Grown rules low (X ∷ Xs)
grown-onto rules low X Xs (passes _ _ l k) rest = passes X Xs l rest
grown-onto rules low X Xs (under q r _ _ a b c k) rest = under q r X Xs a b c rest

pub grown-all : (rules : List Production) (low : ℕ) (Xs : List ℕ) → All (λ X. Grown rules low (X ∷ [])) Xs → Grown rules low Xs
grown-all rules low [] h = nothing
grown-all rules low (X ∷ Xs) h = grown-onto rules low X Xs (All-head (λ Y. Grown rules low (Y ∷ [])) X Xs h) (grown-all rules low Xs (All-tail (λ Y. Grown rules low (Y ∷ [])) X Xs h))

-- what derives some tokens begins with some symbol
begins-grown : (g : Grammar) (Xs Ys : List ℕ) (t : ℕ) → Grown g.rules g.terminals Xs → (u : ℕ) × Begins g Ys t u → (u : ℕ) × Begins g (Xs ++ Ys) t u
begins-grown g _ Ys t nothing b = b
begins-grown g _ Ys t (passes X Xs l rest) b = (X, here X (Xs ++ Ys) t l)
begins-grown g _ Ys t (under q r X Xs is same sides rest) b =
    let i = begins-grown g r.right (Xs ++ Ys) t sides (begins-grown g Xs Ys t rest b) in
    (i.0, inside q r X (Xs ++ Ys) t i.0 is same i.1)

-- the kernel's items of a core, and the whole of it
abbrev pub IsKept : Grammar → ℕ → ℕ → Type 0
IsKept g p d = p < length g.rules → 0 < d

abbrev pub KernelOf : Grammar → List ℕ → List Item → Type 0
KernelOf g w kernel = (p d : ℕ) → IsKept g p d → Contains kernel (item p d) ↔ InCore g w p d

abbrev pub CoreOf : Grammar → List ℕ → List Item → Type 0
CoreOf g w core = (p d : ℕ) → Contains core (item p d) ↔ InCore g w p d

-- where a prefix is longer by a symbol, some item of the prefix before has its dot before it
pub before-step : (g : Grammar) (X : ℕ) (w : List ℕ) (p d t : ℕ) → Valid g (X ∷ w) p d t → (q : ℕ) × (e : ℕ) × InCore g w q e × (symbol_at g q e ≡ Some X)
before-step g X w _ _ _ (close _ p d t Y q u r v a b c f) = before-step g X w p d t v
before-step g X w _ _ _ (step _ p d t _ v a) = (p, d, (t, v), a)

module _ (g : Grammar) (formed : IsWellFormed g) (productive : AllProductive g) where
  begins-some : (p d t : ℕ) → (u : ℕ) × Begins g (drop d (right_of g p)) t u
  begins-some p d t =
      let fit = (right_of-fits g p formed).1 in
      let each = All-drop (λ X. X < g.symbols) d (right_of g p) fit in
      let rest = drop d (right_of g p) in
      let grown = grown-all g.rules g.terminals rest (λ k e l. grown-productive g (get_or rest k e) (productive (get_or rest k e) (each k e l))) in
      let b = begins-grown g rest [] t grown (t, behind t) in
      (b.0, subst (λ l. Begins g l t b.0) (append-nil rest) b.1)

  in-core : (w : List ℕ) (kernel : List Item) → ((p d : ℕ) → Contains kernel (item p d) → InCore g w p d) → (p d : ℕ) → In g kernel p d → InCore g w p d
  in-core w kernel has p d (kept _ _ c) = has p d c
  in-core w kernel has _ _ (opened p d X q r i symbol is left) =
      let v = in-core w kernel has p d i in
      let b = begins-some p (suc d) v.0 in
      (b.0, close w p d v.0 X q b.0 r v.1 symbol is left b.1)

  -- what closes the kernel of a prefix is its core
  core-of-valid : (w : List ℕ) (kernel core : List Item) → KernelOf g w kernel → IsClosure g kernel core → (p d t : ℕ) → Valid g w p d t → Contains core (item p d)
  core-of-valid w kernel core k c _ _ _ (start n p l e) = (c.exact p zero).1 (kept p zero ((k p zero (λ low. absurd (omega (arith, low, e)))).1 (zero, start n p l e)))
  core-of-valid w kernel core k c _ _ _ (close _ p d t X q u r v symbol is left b) =
      (c.exact q zero).1 (opened p d X q r ((c.exact p d).0 (core-of-valid w kernel core k c p d t v)) symbol is left)
  core-of-valid _ kernel core k c _ _ _ (step w p d t X v symbol) = (c.exact p (suc d)).1 (kept p (suc d) ((k p (suc d) (λ low. omega arith)).1 (t, step w p d t X v symbol)))

  pub core-of-kernel : (w : List ℕ) (kernel core : List Item) → IsKernel g kernel → KernelOf g w kernel → IsClosure g kernel core → CoreOf g w core
  core-of-kernel w kernel core is k c p d = (
    λ m. in-core w kernel (λ q e n. (k q e (λ low. All-contains (λ (i : Item). i.production < length g.rules → 0 < i.dot) kernel (item q e) is.dots n low)).0 n) p d ((c.exact p d).0 m),
    λ v. core-of-valid w kernel core k c p d v.0 v.1,
  )

  pub kernel-start : KernelOf g [] (start_items g)
  kernel-start p d is = (
    λ m. let s = starts-from (length g.rules) (length g.entries) (item p d) m in (zero, subst (λ (i : Item). Valid g [] i.production i.dot zero) (sym s.2) (start s.0 (length g.rules + s.0) s.1 refl)),
    λ v. back p d v.0 is v.1,
  )
    where
      back : (p d t : ℕ) → IsKept g p d → Valid g [] p d t → Contains (start_items g) (item p d)
      back _ _ _ is (start k p l e) = subst (λ m. Contains (start_items g) (item m 0)) (sym e) (starts-has (length g.rules) (length g.entries) k l)
      back _ _ _ is (close w p d t X q u r v symbol at left b) = absurd (let l = is (slice_get_within g.rules q r at) in omega (arith, l))

  -- what lies behind a symbol in the core of a prefix is the kernel of the longer prefix
  pub kernel-behind : (w : List ℕ) (core : List Item) (X : ℕ) → CoreOf g w core → KernelOf g (X ∷ w) (advance g X core)
  kernel-behind w core X c p d is = (
    λ m. let f = advance-from g X core (item p d) m in
        let v = (c f.0.production f.0.dot).0 f.1 in
        (v.0, subst (λ (i : Item). Valid g (X ∷ w) i.production i.dot v.0) (sym f.3) (step w f.0.production f.0.dot v.0 X v.1 f.2)),
    λ v. back p d v.0 is v.1,
  )
    where
      back : (p d t : ℕ) → IsKept g p d → Valid g (X ∷ w) p d t → Contains (advance g X core) (item p d)
      back _ _ _ is (close _ p d t Y q u r v symbol at left b) = absurd (let l = is (slice_get_within g.rules q r at) in omega (arith, l))
      back _ _ _ is (step _ p d t _ v symbol) = advance-has g X core (item p d) ((c p d).1 (t, v)) symbol

  -- prefixes with the same core have the same kernel
  pub same-kernels : (w h : List ℕ) (kernel other : List Item) → IsKernel g kernel → IsKernel g other → KernelOf g w kernel → KernelOf g h other → SameCore g w h → kernel ≡ other
  same-kernels w h kernel other is is' k k' same = rising-same kernel other is.rising is'.rising (λ i. (
    λ m. let kept = All-contains (λ (j : Item). j.production < length g.rules → 0 < j.dot) kernel i is.dots m in (k' i.production i.dot kept).1 ((same i.production i.dot).0 ((k i.production i.dot kept).0 m)),
    λ m. let kept = All-contains (λ (j : Item). j.production < length g.rules → 0 < j.dot) other i is'.dots m in (k i.production i.dot kept).1 ((same i.production i.dot).1 ((k' i.production i.dot kept).0 m)),
  ))
