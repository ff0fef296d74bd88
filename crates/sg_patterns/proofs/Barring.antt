-- Bytes with which no match begins.
use Rattle.std.proofs.Common.{◌≡◌, ℕ, zero, suc, ◌<◌, true, false, List, [], ◌∷◌, ◌++◌, Bool, length, refl, sym, ap, ◌∙◌, subst, arith, Some}
use Rattle.std.specs.Prelude.{slice_get, nat_eq}
use Rattle.std.proofs.lemmas.Bool.{eq-eqb}
use Rattle.sg_kinds.specs.Lexemes.{Lexeme}
use Rattle.sg_patterns.specs.declared.program.Program.{Program}
use Rattle.sg_patterns.specs.declared.program.State.{State}
use Rattle.sg_patterns.specs.declared.program.Rows.{Rows}
use Rattle.sg_patterns.specs.declared.program.Next.{Next}
use Rattle.sg_patterns.specs.declared.program.Next.TheVariants.{Dead, To}
use Rattle.sg_patterns.specs.Rows.{AreRows, IsNext, next_at}
use Rattle.sg_patterns.specs.LongestMatch.{IsLength, Pattern}
use Rattle.sg_patterns.specs.Marks.{HasBegins, HasFinalsTo, IsDead}
use Rattle.sg_patterns.specs.Flags.{flag_at}
use Rattle.sg_patterns.specs.Programs.{IsBarred, IsProgram}
use Rattle.sg_patterns.proofs.LongestSoFar.{matched-none, step-dead}

-- a byte over which no leaf is marked at the beginning
pub dead-barred : (p : Program) (q : Lexeme) (none begins finals : List Bool) (b : ℕ) → IsProgram p q → ((k : ℕ) → k < length p.nodes.items → flag_at none k ≡ false) → HasBegins p true none begins → HasFinalsTo p (length p.nodes.items) b begins finals → IsDead p (length p.nodes.items) finals → IsBarred q b
dead-barred p q none begins finals b h down hb hf dead text at n here m =
    let top = ap (slice_get p.above.items) h.is_root ∙ h.is_top in
    let len = subst (λ r. IsLength (Pattern r) text at 0) h.is_pattern
    (step-dead p text h.tree h.stands none begins finals at at 0 b true (matched-none p text h.tree h.stands none at down) (omega arith) here top (same at) hb hf dead) in
    omega (arith, len.most n m)
  where
    same : (k : ℕ) → true ≡ nat_eq k k
    same k = sym (eq-eqb k k refl)

-- what leads in a program leads in one with the same nodes
module _ (p r : Program) (n : r.nodes ≡ p.nodes) (a : r.above ≡ p.above) (e : r.empties ≡ p.empties) where
  next-same : (states : List State) (s b : ℕ) (w : Next) → IsNext p states s b w → IsNext r states s b w
  next-same states s b Dead x = (x.0, (x.1.0, rw (a, e) x.1.1, rw (n, e) x.1.2), rw n x.2)
  next-same states s b (To t) x = (x.0, x.1, (x.2.0, rw (a, e) x.2.1, rw (n, e) x.2.2))

  rows-same : (x : Rows) → AreRows p x → AreRows r x
  rows-same x h = record {
    first = h.first;
    full = h.full;
    next = λ s b within byte written. next-same x.states.items s b (next_at x.next.items s b) (h.next s b within byte written);
  }

-- a program with the same nodes
pub program-same : (p r : Program) (q : Lexeme) → IsProgram p q → r.nodes ≡ p.nodes → r.above ≡ p.above → r.empties ≡ p.empties → r.root ≡ p.root → ((b : ℕ) → flag_at r.barred.items b ≡ true → IsBarred q b) → AreRows p r.rows → IsProgram r q
program-same p r q h n a e o bars rows = record {
  tree = h.tree;
  is_pattern = h.is_pattern;
  is_root = h.is_root ∙ sym o;
  is_top = rw (a, o) h.is_top;
  stands = rw (n, a, e) h.stands;
  above_each = rw (n, a) h.above_each;
  empty_each = rw (n, e) h.empty_each;
  ordered = record { each = rw (n, a) h.ordered.each; parts = rw n h.ordered.parts; order = rw a h.ordered.order; rows = rows-same p r n a e r.rows rows };
  barred = bars;
}

-- where no match begins, the longest has no byte
pub barred-length : (p : Program) (q : Lexeme) (text : List ℕ) (at b : ℕ) → IsProgram p q → slice_get text at ≡ Some b → flag_at p.barred.items b ≡ true → IsLength (Pattern q) text at 0
barred-length p q text at b h here up = record {
  found = λ less. absurd (omega (arith, less));
  most = λ n m. omega (arith, h.barred b up text at n here m);
}

-- one flag more
pub barred-more : (flags : List Bool) (n : ℕ) (v : Bool) (P : ℕ → Type 0) → length flags ≡ n → ((b : ℕ) → flag_at flags b ≡ true → P b) → (v ≡ true → P n) → (b : ℕ) → flag_at (flags ++ v ∷ []) b ≡ true → P b
barred-more [] n v P len old new zero up = subst P (sym len) (new up)
barred-more [] n v P len old new (suc b) up = absurd (let both : false ≡ true = up in cc)
barred-more (f ∷ flags) n v P len old new zero up = old zero up
barred-more (f ∷ flags) n v P len old new (suc b) up = barred-more flags (length flags) v (λ k. P (suc k)) refl (λ k u. old (suc k) u) (λ u. subst P (sym len) (new u)) b up
