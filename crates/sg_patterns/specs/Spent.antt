-- Places from which a match is known to go on to no end.
use Rattle.std.specs.Prelude.{◌≡◌, ℕ, ◌<◌, ◌⊎◌, Bool, true, List, length, Some, slice_get}
use Rattle.std.specs.List.{All}
use Rattle.sg_kinds.specs.Lexemes as plain
use Rattle.sg_kinds.specs.Matches.{Rounds, MatchesFrom}
use Rattle.sg_kinds.specs.Values.{Bytes}
use Rattle.sg_patterns.specs.Trees.{Tree, Nothing, OneByte, Then, Either, Many, Several, Maybe, pattern_of}
use Rattle.sg_patterns.specs.Flags.{flag_at}
use Rattle.sg_patterns.specs.Programs.{IsProgram}
use Rattle.sg_patterns.specs.declared.program.Program.{Program}
use Rattle.sg_patterns.specs.declared.failures.Checkpoint.{Checkpoint}
use Rattle.sg_patterns.specs.declared.failures.Failures.{Failures}

-- from some mark after place j the pattern can end at e
abbrev pub Rest : Bytes → (ℕ → Bool) → Tree → ℕ → ℕ → Type 0
Rest text f (Nothing k) j e = ⊥
Rest text f (OneByte k l) j e = (f k ≡ true) × (e ≡ j)
Rest text f (Then k t u) j e = ((x : ℕ) × Rest text f t j x × MatchesFrom (pattern_of u) text x e) ⊎ Rest text f u j e
Rest text f (Either k t u) j e = Rest text f t j e ⊎ Rest text f u j e
Rest text f (Many k t) j e = (x : ℕ) × Rest text f t j x × Rounds (MatchesFrom (pattern_of t) text) x e
Rest text f (Several k t) j e = (x : ℕ) × Rest text f t j x × Rounds (MatchesFrom (pattern_of t) text) x e
Rest text f (Maybe k t) j e = Rest text f t j e

-- with these flags at a place no match ends behind it
abbrev pub IsSpent : Bytes → Tree → ℕ → List Bool → Type 0
IsSpent text t place flags = (e : ℕ) → place < e → Rest text (flag_at flags) t place e → ⊥

-- so it is at a checkpoint that holds
abbrev pub IsFailure : Bytes → Tree → ℕ → Checkpoint → Type 0
IsFailure text t after c = after < c.place → IsSpent text t c.place c.flags.items

abbrev pub AreSpent : Bytes → Tree → Failures → Type 0
AreSpent text t x = All (IsFailure text t x.after) x.checkpoints.items

-- so it is at each checkpoint, and at those before the bound if it is so with these flags at this place
abbrev pub AreSpentIf : Bytes → Tree → (bound place : ℕ) → List Bool → Failures → Type 0
AreSpentIf text t bound place flags x =
    All (λ c. (c.place < bound → IsSpent text t place flags) → IsFailure text t x.after c) x.checkpoints.items

-- each checkpoint has so many flags
abbrev pub HasSize : ℕ → Failures → Type 0
HasSize n x = All (λ c. length c.flags.items ≡ n) x.checkpoints.items

-- what is known of a program and a text
pub record AreFailures (p : Program) (text : Bytes) (x : Failures) : Type 0 where
  pub sized : HasSize (length p.nodes.items) x
  pub spent : (q : plain.Lexeme) (h : IsProgram p q) → AreSpent text h.tree x

-- and of each of several programs
pub record HaveFailures (programs : List Program) (text : Bytes) (all : List Failures) : Type 0 where
  pub same : length all ≡ length programs
  pub each : (k : ℕ) (p : Program) (x : Failures) → slice_get programs k ≡ Some p → slice_get all k ≡ Some x
      → AreFailures p text x
