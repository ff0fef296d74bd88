-- What leads over bytes: from flags of a number to others.
use Rattle.std.proofs.Common.{◌≡◌, ◌⊎◌, inl, inr, ℕ, zero, suc, ◌+◌, ◌*◌, ◌-◌, ◌/◌, ◌%◌, ◌<◌, ◌≤◌, ◌||◌, ◌&&◌, Bool, true, List, [], ◌∷◌, ◌++◌, length, get_or, refl, sym, ap, ◌∙◌, subst, arith, Option, Some, None, length-append}
use Rattle.std.specs.Prelude.{IfSome, slice_get, slice_index_or, nat_eq}
use Rattle.std.proofs.Math.ListN.{get_or-append}
use Rattle.std.proofs.Math.Nat.{eq-or-lt_of_le}
use Rattle.std.proofs.Math.Seq.{get_or-append_seam}
use Rattle.std.proofs.lemmas.Bool.{eq-eqb, ne_eqb}
use Rattle.std.proofs.lemmas.Nat.{div-mul-add, mod-mul-add}
use Rattle.std.proofs.lemmas.Option.{slice_get-get_or}
use Rattle.sg_kinds.specs.Lexemes.{Lexeme}
use Rattle.sg_kinds.specs.Values.{Bytes}
use Rattle.sg_patterns.specs.declared.program.Node.{Node}
use Rattle.sg_patterns.specs.declared.program.Node.TheVariants as node
use Rattle.sg_patterns.specs.declared.program.Program.{Program}
use Rattle.sg_patterns.specs.declared.program.State.{State}
use Rattle.sg_patterns.specs.declared.program.Next.{Next}
use Rattle.sg_patterns.specs.declared.program.Next.TheVariants.{Dead, To}
use Rattle.sg_patterns.specs.Flags.{flag_at}
use Rattle.sg_patterns.specs.Marks.{final_in, HasBegins, IsDead}
use Rattle.sg_patterns.specs.Programs.{IsOrdered, IsProgram, PartsBefore}
use Rattle.sg_patterns.specs.Rows.{AreAlike, AreNext, AreRows, AreRuns, Grows, IsAlike, IsNext, Leads, flags_by, flags_of, next_at}
use Rattle.sg_patterns.proofs.Failing.{Alike, Step, stepped}
use Rattle.sg_patterns.proofs.LongestSoFar.{Matched}

-- the flags of a number
pub flags-at : (states : List State) (s : ℕ) (x : State) → s < length states → x ≡ get_or states s x → flags_of states s ≡ x.flags.items
flags-at states s x within is = ap flags_by (slice_get-get_or states s x within ∙ ap Some (sym is))

-- whether a match may begin is known of the number as well
pub starts-at : (at : ℕ) → nat_eq at at ≡ nat_eq 0 0
starts-at at = eq-eqb at at refl

pub starts-on : (place at t : ℕ) → at ≤ place → 0 < t → nat_eq (place + 1) at ≡ nat_eq t 0
starts-on place at t le some = ne_eqb (place + 1) at (λ e. omega (arith, e)) ∙ sym (ne_eqb t 0 (λ e. omega (arith, e)))

module _ (p : Program) where
  -- what a node is after a byte hangs on the flags of its parts, and on what its leaf says of the byte
  final-alike : (em g f h : List Bool) (b n k : ℕ) (o : Option Node) → k < n → ((x : Node) → o ≡ Some x → PartsBefore k x) → Alike n f h → final_in em g f b k o ≡ final_in em g h b k o
  final-alike em g f h b n k None less before like = refl
  final-alike em g f h b n k (Some node.Nothing) less before like = refl
  final-alike em g f h b n k (Some (node.Leaf l)) less before like = refl
  final-alike em g f h b n k (Some (node.Then x y)) less before like =
      let parts = before (node.Then x y) refl in
      λ i. (like x (omega (arith, parts.0)) i && flag_at em y) || like y (omega (arith, parts.1)) i
  final-alike em g f h b n k (Some (node.Either x y)) less before like =
      let parts = before (node.Either x y) refl in
      λ i. like x (omega (arith, parts.0)) i || like y (omega (arith, parts.1)) i
  final-alike em g f h b n k (Some (node.Over x)) less before like = like x (omega (arith, before (node.Over x) refl))

  final-byte : (em g f : List Bool) (b c k : ℕ) (o : Option Node) → ((x : Node) → o ≡ Some x → IsAlike x b c) → final_in em g f b k o ≡ final_in em g f c k o
  final-byte em g f b c k None like = refl
  final-byte em g f b c k (Some node.Nothing) like = refl
  final-byte em g f b c k (Some (node.Leaf l)) like = ap (λ v. flag_at g k && v) (like (node.Leaf l) refl)
  final-byte em g f b c k (Some (node.Then x y)) like = refl
  final-byte em g f b c k (Some (node.Either x y)) like = refl
  final-byte em g f b c k (Some (node.Over x)) like = refl

  -- a byte leads to flags that are alike
  pub leads-alike : (starts : Bool) (b : ℕ) (f h j : List Bool) → IsOrdered p → Alike (length p.nodes.items) h j → Leads p starts b f h → Leads p starts b f j
  leads-alike starts b f h j ordered like l =
      (l.0, l.1, λ k less. sym (like k less) ∙ l.2 k less ∙ final-alike p.empties.items l.0 h j b (length p.nodes.items) k (slice_get p.nodes.items k) less (ordered.parts k) like)

  -- and so does one that is alike
  leads-byte : (starts : Bool) (b c : ℕ) (f h : List Bool) → AreAlike p b c → Leads p starts b f h → Leads p starts c f h
  leads-byte starts b c f h like l =
      (l.0, l.1, λ k less. l.2 k less ∙ final-byte p.empties.items l.0 h b c k (slice_get p.nodes.items k) (like k))

  pub next-byte : (states : List State) (s b c : ℕ) (w : Next) → AreAlike p b c → IsNext p states s b w → IsNext p states s c w
  next-byte states s b c Dead like x = (x.0, leads-byte (nat_eq s 0) b c (flags_of states s) x.0 like x.1, x.2)
  next-byte states s b c (To t) like x = (x.0, x.1, leads-byte (nat_eq s 0) b c (flags_of states s) (flags_of states t) like x.2)

  -- what was said stays so where there are more flags
  pub next-grows : (old new : List State) (s b : ℕ) (w : Next) → Grows old new → s < length old → IsNext p old s b w → IsNext p new s b w
  next-grows old new s b Dead g within x = (x.0, subst (λ f. Leads p (nat_eq s 0) b f x.0) (sym (g.kept s within)) x.1, x.2)
  next-grows old new s b (To t) g within x =
      (x.0, omega (arith, x.1, g.longer), subst (λ f. Leads p (nat_eq s 0) b f (flags_of new t)) (sym (g.kept s within)) (subst (Leads p (nat_eq s 0) b (flags_of old s)) (sym (g.kept t x.1)) x.2))

  -- one more entry
  pub next-more : (old new : List State) (next : List Next) (w : Next) → AreNext p old next → Grows old new → length next < 256 * length old → ((s b : ℕ) → length next ≡ 256 * s + b → b < 256 → IsNext p new s b w) → AreNext p new (next ++ w ∷ [])
  next-more old new next w are g within last s b less byte written =
      elim (place (256 * s + b) (omega (arith, written, length-append next (w ∷ [])))) [
        | inl before ↦
            let known : s < length old = omega (arith, before, within) in
            subst (IsNext p new s b) (sym (get_or-append next (w ∷ []) Dead (256 * s + b) before)) (next-grows old new s b (next_at next s b) g known (are s b known byte before))
        | inr here ↦ subst (IsNext p new s b) (sym (ap (λ k. slice_index_or (next ++ w ∷ []) k Dead) here ∙ get_or-append_seam next w [] Dead)) (last s b (sym here) byte)
      ]
    where
      place : (k : ℕ) → k < length next + 1 → (k < length next) ⊎ (k ≡ length next)
      place k less = elim (eq-or-lt_of_le {n = k} {m = length next} (omega arith)) [ inl e ↦ inr e | inr e ↦ inl e ]

-- flags behind the others
slice_get-left : {A : Type 0} (xs ys : List A) (k : ℕ) → k < length xs → slice_get (xs ++ ys) k ≡ slice_get xs k
slice_get-left [] ys k less = absurd (omega arith)
slice_get-left (x ∷ xs) ys zero less = refl
slice_get-left (x ∷ xs) ys (suc k) less = slice_get-left xs ys k (omega arith)

slice_get-last : {A : Type 0} (xs : List A) (x : A) → slice_get (xs ++ x ∷ []) (length xs) ≡ Some x
slice_get-last [] x = refl
slice_get-last (y ∷ xs) x = slice_get-last xs x

pub grows-same : (states : List State) → Grows states states
grows-same states = record { longer = omega arith; kept = λ s within. refl }

pub grows-more : (old new : List State) (x : State) → new ≡ old ++ x ∷ [] → Grows old new
grows-more old new x is = record {
  longer = omega (arith, ap length is, length-append old (x ∷ []));
  kept = λ s within. ap (λ xs. flags_of xs s) is ∙ ap flags_by (slice_get-left old (x ∷ []) s within);
}

pub flags-last : (old new : List State) (x : State) (t : ℕ) → new ≡ old ++ x ∷ [] → t ≡ length old → flags_of new t ≡ x.flags.items
flags-last old new x t is here = (λ i. flags_of (is i) (here i)) ∙ ap flags_by (slice_get-last old x)

-- what the rows say of the byte at a place where a run stands at flags of number s
module _ (p : Program) (rows : AreRows p p.rows) (text : Bytes) (s place : ℕ) (known : s < length p.rows.states.items) (small : get_or text place 0 < 256) where
  next-is : (w : Next) → w ≡ next_at p.rows.next.items s (get_or text place 0) → IsNext p p.rows.states.items s (get_or text place 0) w
  next-is w is = subst (IsNext p p.rows.states.items s (get_or text place 0)) (sym is) (rows.next s (get_or text place 0) known small (omega (arith, rows.full)))

  pub next-within : (t : ℕ) → To t ≡ next_at p.rows.next.items s (get_or text place 0) → (0 < t) × (t < length p.rows.states.items)
  next-within t is = let x = next-is (To t) is in (x.0, x.1)

  module _ (q : Lexeme) (h : IsProgram p q) (at longest : ℕ) (m : Matched text h.tree (flags_of p.rows.states.items s) at place longest) (le : at ≤ place) (within : place < length text) (starts : nat_eq place at ≡ nat_eq s 0) where
    led : (j : List Bool) → Leads p (nat_eq s 0) (get_or text place 0) (flags_of p.rows.states.items s) j → Step p text h.tree q (flags_of p.rows.states.items s) j at place longest
    led j l = stepped p text q h (flags_of p.rows.states.items s) l.0 j at place longest m le within (subst (λ z. HasBegins p z (flags_of p.rows.states.items s) l.0) (sym starts) l.1) l.2

    pub led-to : (t : ℕ) (j : List Bool) → To t ≡ next_at p.rows.next.items s (get_or text place 0) → flags_of p.rows.states.items t ≡ j → Step p text h.tree q (flags_of p.rows.states.items s) j at place longest
    led-to t j is same = led j (subst (Leads p (nat_eq s 0) (get_or text place 0) (flags_of p.rows.states.items s)) same (next-is (To t) is).2)

    pub led-dead : Dead ≡ next_at p.rows.next.items s (get_or text place 0) → (j : List Bool) × Step p text h.tree q (flags_of p.rows.states.items s) j at place longest × IsDead p (length p.nodes.items) j
    led-dead is = let x = next-is Dead is in (x.0, led x.0 x.1, x.2)

-- a byte that is like the one before it leads where that does
pub next-again : (p : Program) (states : List State) (next : List Next) (alike : List Bool) → AreRuns p alike → AreNext p states next → length next < 256 * length states → (s b : ℕ) → length next ≡ 256 * s + b → b < 256 → 0 < b → flag_at alike b ≡ true → IsNext p states s b (slice_index_or next (length next - 1) Dead)
next-again p states next alike runs are within s b here less some up =
    let known : s < length states = omega (arith, here, within) in
    let place : 256 * s + (b - 1) ≡ length next - 1 = omega (arith, here, some) in
    next-byte p states s (b - 1) b (slice_index_or next (length next - 1) Dead) (runs b up) (subst (λ k. IsNext p states s (b - 1) (slice_index_or next k Dead)) place (are s (b - 1) known (omega (arith, less)) (omega (arith, here, some))))

-- the number and the byte of an entry
entry-is : (count s b : ℕ) → count ≡ 256 * s + b → b < 256 → (count / 256 ≡ s) × (count % 256 ≡ b)
entry-is count s b is less =
    let e : count ≡ s * 256 + b = omega (arith, is) in
    (ap (λ n. n / 256) e ∙ div-mul-add s 256 b less, ap (λ n. n % 256) e ∙ mod-mul-add s 256 b less)

pub byte-is : (count s b : ℕ) → count ≡ 256 * s + b → b < 256 → count % 256 ≡ b
byte-is count s b is less = (entry-is count s b is less).1

pub led-entry : (p : Program) (states : List State) (count : ℕ) (o : Option Next) → IfSome o (λ w. IsNext p states (count / 256) (count % 256) w) → IfSome o (λ w. (s b : ℕ) → count ≡ 256 * s + b → b < 256 → IsNext p states s b w)
led-entry p states count None x = x
led-entry p states count (Some w) x = λ s b is less.
    let e = entry-is count s b is less in
    subst (λ k. IsNext p states s k w) e.1 (subst (λ k. IsNext p states k (count % 256) w) e.0 x)

-- a byte that leads to no number
pub dead-is : (w : Next) → ((t : ℕ) → w ≡ To t → ⊥) → w ≡ Dead
dead-is Dead other = refl
dead-is (To t) other = absurd (other t refl)
