-- Over a prefix the machine comes to an end, to a shift, or to a reduction that reaches into the prefix.
use Rattle.std.proofs.Common.{◌≡◌, ℕ, zero, suc, ◌+◌, ◌<◌, ◌≤◌, ◌⊎◌, inl, inr, List, [], ◌∷◌, ◌++◌, length, refl, sym, ap, ◌∙◌, subst, arith, Some}
use Rattle.std.specs.Prelude.{slice_get}
use Rattle.std.proofs.lemmas.Bool.{cases_lt}
use Rattle.std.proofs.lemmas.Option.{same_Some}
use Rattle.sg_grammar.specs.declared.grammar.Production.{Production}
use Rattle.sg_grammar.specs.Derives.{Token, Derives, plain}
use Rattle.sg_lalr.specs.declared.table.Action.TheVariants.{Reduce, Accept}
use Rattle.sg_lalr.specs.ValidItems.{Viable}
use Rattle.sg_lalr.specs.Tables.{View, IsTables, Decided}
use Rattle.sg_machine.specs.Machine.{look, state_behind, top, pushed, Run, stay, shift, reduce}
use Rattle.sg_machine.specs.Kept.{cells_of}
use Rattle.sg_machine.proofs.Lists.{same-head, same-tail, same-cons, pushed-append, pushed-onto, pushed-pushed, turned-twice, length-pushed, same-pushed}
use Rattle.sg_machine.proofs.Derivations.{derives-append, in-two}
use Rattle.sg_machine.proofs.Running.{shift-reduce, joined}
use Rattle.sg_machine.proofs.Consume.{cells-results}
use Rattle.sg_machine.proofs.Stacks.{stack_of, units, length-units, top-stack, stack-pushed, same-behind, reduce-step, derived-under, reducible}

front : (xs base ys h : List ℕ) → xs ++ base ≡ ys ++ h → length xs ≤ length ys → (u : List ℕ) × (ys ≡ xs ++ u) × (base ≡ u ++ h)
front [] base ys h e l = (ys, refl, e)
front (x ∷ xs) base [] h e l = absurd (omega (arith, l))
front (x ∷ xs) base (y ∷ ys) h e l =
    let i = front xs base ys h (same-tail x y (xs ++ base) (ys ++ h) e) (omega (arith, l)) in
    (i.0, same-cons y x ys (xs ++ i.0) (sym (same-head x y (xs ++ base) (ys ++ h) e)) i.1, i.2)

-- of two strings on top of one prefix the shorter is the end of the longer
pub end-of : (Bs R w below : List ℕ) → pushed Bs w ≡ pushed R below → length R ≤ length Bs → (Cs : List ℕ) × (Bs ≡ Cs ++ R) × (below ≡ pushed Cs w)
end-of Bs R w below e l =
    let tB = pushed Bs [] in
    let tR = pushed R [] in
    let same : tR ++ below ≡ tB ++ w = sym (pushed-onto R [] below) ∙ (sym e ∙ pushed-onto Bs [] w) in
    let i = front tR below tB w same (let a = length-pushed R [] in let b = length-pushed Bs [] in omega (arith, a, b, l)) in
    let u = i.0 in (
      pushed u [],
      sym (turned-twice Bs) ∙ (ap (λ z. pushed z []) i.1 ∙ (pushed-append tR u [] ∙ (ap (λ z. pushed u z) (turned-twice R) ∙ pushed-onto u [] R))),
      i.2 ∙ sym (pushed-pushed u [] w),
    )

pub accept-reduce : (p : ℕ) → Accept ≡ Reduce p → ⊥
accept-reduce p e = cc

module _ (v : View) (tables : IsTables v) (m : Decided v) (w h : List ℕ) (like : state_behind m w ≡ state_behind m h) (ts : List Token) (low : look ts < v.grammar.terminals) where
  -- over the string, which derives nothing, the machine comes to such a string at which it does not reduce, or reduces
  -- more than the string
  pub record Exit (Bs : List ℕ) : Type 0 where
    pub steps : ℕ
    pub string : List ℕ
    pub run : Run plain m steps (stack_of m (pushed Bs w)) ts (stack_of m (pushed string w)) ts
    pub viable : Viable v.grammar (pushed string w)
    pub results : List (Unit {0})
    pub nodes : ℕ
    pub derived : Derives v.grammar plain string [] results nodes
    pub last : ((p : ℕ) → m.act (state_behind m (pushed string w)) (look ts) ≡ Reduce p → ⊥)
        ⊎ ((p : ℕ) × (r : Production) × (m.act (state_behind m (pushed string w)) (look ts) ≡ Reduce p) × (slice_get v.grammar.rules p ≡ Some r) × (length string < length r.right))

  at-once : (Bs : List ℕ) (vs : List (Unit {0})) (b : ℕ) → Viable v.grammar (pushed Bs w) → Derives v.grammar plain Bs [] vs b
      → ((p : ℕ) → m.act (state_behind m (pushed Bs w)) (look ts) ≡ Reduce p → ⊥) ⊎ ((p : ℕ) × (r : Production) × (m.act (state_behind m (pushed Bs w)) (look ts) ≡ Reduce p) × (slice_get v.grammar.rules p ≡ Some r) × (length Bs < length r.right))
      → Exit Bs
  at-once Bs vs b x d last = record {
    steps = zero;
    string = Bs;
    run = stay (stack_of m (pushed Bs w)) ts;
    viable = x;
    results = vs;
    nodes = b;
    derived = d;
    last = last;
  }

  -- the other run is in the same state
  same-act : (Bs : List ℕ) (s : List (ℕ × Unit {0})) (us : List Token) → look ts ≡ look us → s ≡ stack_of m (pushed Bs h) → m.act (state_behind m (pushed Bs w)) (look ts) ≡ m.act (top s) (look us)
  same-act Bs s us l is =
      ap (λ z. m.act (state_behind m (pushed Bs w)) z) l
      ∙ ap (λ z. m.act z (look us)) (same-behind v m Bs w h like ∙ (sym (top-stack v m (pushed Bs h)) ∙ ap top (sym is)))

  -- a reduction within the string
  record Within (Bs : List ℕ) (r : Production) (base : List (ℕ × Unit {0})) : Type 0 where
    string : List ℕ
    run : Run plain m (suc zero) (stack_of m (pushed Bs w)) ts (stack_of m (pushed string w)) ts
    viable : Viable v.grammar (pushed string w)
    results : List (Unit {0})
    nodes : ℕ
    derived : Derives v.grammar plain string [] results nodes
    stacked : (m.go (top base) r.left, tt) ∷ base ≡ stack_of m (pushed string h)

  reduced-within : (Bs : List ℕ) (vs : List (Unit {0})) (b : ℕ) → Viable v.grammar (pushed Bs w) → Derives v.grammar plain Bs [] vs b → (p : ℕ) (r : Production) → m.act (state_behind m (pushed Bs w)) (look ts) ≡ Reduce p → slice_get v.grammar.rules p ≡ Some r
      → length r.right ≤ length Bs → (cells base : List (ℕ × Unit {0})) → stack_of m (pushed Bs h) ≡ pushed cells base → length cells ≡ length r.right → Within Bs r base
  reduced-within Bs vs b x d p r act is within cells base stack lengths =
      let g = v.grammar in
      let red = reducible v tables m (pushed Bs w) x (look ts) p low act in
      let same : red.rule ≡ r = same_Some red.rule r (sym red.is ∙ is) in
      let stands : pushed Bs w ≡ pushed r.right red.below = red.stands ∙ ap (λ (z : Production). pushed z.right red.below) same in
      let c = end-of Bs r.right w red.below stands within in
      let Cs = c.0 in
      let ours : pushed Bs w ≡ pushed r.right (pushed Cs w) = ap (λ z. pushed z w) c.1 ∙ pushed-append Cs r.right w in
      let theirs : pushed Bs h ≡ pushed r.right (pushed Cs h) = ap (λ z. pushed z h) c.1 ∙ pushed-append Cs r.right h in
      let grown : r.left ∷ pushed Cs w ≡ pushed (Cs ++ r.left ∷ []) w = sym (pushed-append Cs (r.left ∷ []) w) in
      let grown_too : r.left ∷ pushed Cs h ≡ pushed (Cs ++ r.left ∷ []) h = sym (pushed-append Cs (r.left ∷ []) h) in
      let once = reduce-step v m p r (pushed Cs w) ts is (ap (λ z. m.act (state_behind m z) (look ts)) (sym ours) ∙ act) in
      let run1 = subst (λ z. Run plain m (suc zero) (stack_of m z) ts (stack_of m (r.left ∷ pushed Cs w)) ts) (sym ours) once in
      let two = in-two g plain Cs r.right [] vs b (subst (λ z. Derives g plain z [] vs b) c.1 d) in
      let node = derived-under g p r is two.back two.back_results two.back_nodes two.second in
      let both = derives-append g plain Cs (r.left ∷ []) two.front two.back two.front_results node.0 two.front_nodes (suc two.back_nodes) two.first node.1 in
      let popped = stack-pushed v m (pushed Cs h) r.right in
      let counted = cells-results v m (pushed Cs h) r.right (units r.right) (length-units r.right) in
      let parts = same-pushed cells (cells_of m (pushed Cs h) r.right (units r.right)) base (stack_of m (pushed Cs h)) (sym stack ∙ (ap (λ z. stack_of m z) theirs ∙ popped)) (lengths ∙ sym counted.1) in
      let state : m.go (top base) r.left ≡ state_behind m (r.left ∷ pushed Cs h) = ap (λ z. m.go (top z) r.left) parts.1 ∙ ap (λ z. m.go z r.left) (top-stack v m (pushed Cs h)) in
      record {
        string = Cs ++ r.left ∷ [];
        run = subst (λ z. Run plain m (suc zero) (stack_of m (pushed Bs w)) ts (stack_of m z) ts) grown run1;
        viable = subst (λ z. Viable g z) grown (subst (λ z. Viable g (r.left ∷ z)) c.2 (subst (λ (z : Production). Viable g (z.left ∷ red.below)) same red.viable));
        results = two.front_results ++ node.0;
        nodes = two.front_nodes + suc two.back_nodes;
        derived = subst (λ z. Derives g plain (Cs ++ r.left ∷ []) z (two.front_results ++ node.0) (two.front_nodes + suc two.back_nodes)) (sym two.tokens) both;
        stacked = ap (λ z. (z, tt) ∷ base) state ∙ (ap (λ z. (state_behind m (r.left ∷ pushed Cs h), tt) ∷ z) parts.1 ∙ ap (λ z. stack_of m z) grown_too);
      }

  pub exit : (n : ℕ) (s : List (ℕ × Unit {0})) (us : List Token) (z : List (ℕ × Unit {0})) → Run plain m n s us z [] → look ts ≡ look us → m.act (top z) zero ≡ Accept → (Bs : List ℕ) (vs : List (Unit {0})) (b : ℕ) → s ≡ stack_of m (pushed Bs h) → Viable v.grammar (pushed Bs w) → Derives v.grammar plain Bs [] vs b → Exit Bs
  exit _ _ _ _ (stay s _) l fin Bs vs b is x d = at-once Bs vs b x d (inl (λ p e. accept-reduce p (sym fin ∙ (sym (same-act Bs s [] l is) ∙ e))))
  exit _ _ _ z (shift n u y s _ us _ act run) l fin Bs vs b is x d = at-once Bs vs b x d (inl (λ p e. shift-reduce u p (sym act ∙ (sym (same-act Bs s (y ∷ us) l is) ∙ e))))
  exit _ _ us z (reduce n p r cells base s _ _ _ act rule stack lengths run) l fin Bs vs b is x d =
      let does = same-act Bs s us l is ∙ act in
      elim (cases_lt (length Bs) (length r.right)) [
        | inl past ↦ at-once Bs vs b x d (inr (p, r, does, rule, past))
        | inr within ↦
            let i = reduced-within Bs vs b x d p r does rule within cells base (sym is ∙ stack) lengths in
            let next = exit n ((m.go (top base) r.left, tt) ∷ base) us z run l fin i.string i.results i.nodes i.stacked i.viable i.derived in
            record {
              steps = suc zero + next.steps;
              string = next.string;
              run = joined v plain m (suc zero) next.steps (stack_of m (pushed Bs w)) (stack_of m (pushed i.string w)) (stack_of m (pushed next.string w)) ts ts ts i.run next.run;
              viable = next.viable;
              results = next.results;
              nodes = next.nodes;
              derived = next.derived;
              last = next.last;
            }
      ]
