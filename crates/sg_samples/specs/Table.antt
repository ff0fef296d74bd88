-- What is known of the symbols of a grammar.
use Rattle.std.specs.Prelude.{◌≡◌, ◌≢◌, ⊤, ℕ, suc, ◌+◌, ◌-◌, ◌<◌, ◌≤◌, ◌⊎◌, max, List, [], ◌∷◌, ◌++◌, length, slice_index_or, sum_by, All}
use Rattle.sg_grammar.specs.Grammar.{Grammar}
use Rattle.sg_grammar.specs.declared.grammar.Production.{Production}
use Rattle.sg_grammar.specs.Derives.{Token}
use Rattle.sg_samples.specs.Expands.{Expands, AreTerminals}
use Rattle.sg_samples.specs.Samples.{DerivesTokens}
pub use Rattle.sg_samples.specs.declared.table.Sample.{Sample}
use Rattle.sg_samples.specs.declared.table.Sample.TheVariants.{Unknown, Long, Short}
use Rattle.sg_samples.specs.declared.table.TheConstants.{MOST}

abbrev pub sample_at : List Sample → ℕ → Sample
sample_at samples X = slice_index_or samples X Unknown

-- some tokens are known that the symbol derives
abbrev pub Has : List Sample → ℕ → Type 0
Has samples X = sample_at samples X ≢ Unknown

-- how many they are, where they are not too many
abbrev pub size : Sample → ℕ
size Unknown = 0
size Long = suc MOST
size (Short v) = length v

abbrev pub size_at : List Sample → ℕ → ℕ
size_at samples X = size (sample_at samples X)

-- how many they are for a string
abbrev pub total : List Sample → List ℕ → ℕ
total samples Xs = sum_by (size_at samples) Xs

-- it is known of a string that it derives tokens, or that it becomes these terminals
abbrev pub IsKnown : Grammar → List ℕ → Sample → Type 0
IsKnown g Xs Unknown = ⊤
IsKnown g Xs Long = (ts : List Token) × DerivesTokens g Xs ts
IsKnown g Xs (Short v) = Expands g Xs v × AreTerminals g v × (length v ≤ MOST)

-- what is right of each symbol; a terminal is its own sample
pub record AreKnown (g : Grammar) (samples : List Sample) : Type 0 where
  pub count : length samples ≡ g.symbols
  pub each : (X : ℕ) → IsKnown g (X ∷ []) (sample_at samples X)
  pub terminals : (X : ℕ) → X < g.terminals → sample_at samples X ≡ Short (X ∷ [])

-- the left side of a production has no longer sample than its right side has
abbrev pub IsSettled : List Sample → Production → Type 0
IsSettled samples r = All (Has samples) r.right
    → Has samples r.left × (size_at samples r.left ≤ total samples r.right)

-- the table of a grammar
pub record IsTable (g : Grammar) (samples : List Sample) : Type 0 where
  pub known : AreKnown g samples
  pub settled : All (IsSettled samples) g.rules

-- The symbol is put behind others: as its sample, for which at most one symbol more than are to spare are taken, or as
-- it is where it has no such sample. So many are left.
pub record PutsSample (samples : List Sample) (X : ℕ) (out : List ℕ) (spare : ℕ) (next : List ℕ) (left : ℕ) : Type 0 where
  pub string : List ℕ
  pub of_symbol : sample_at samples X ≡ Short string
  pub fits : length string ≤ suc spare
  pub behind : next ≡ out ++ string
  pub less : left ≡ suc spare - max 1 (length string)

pub record PutsItself (samples : List Sample) (X : ℕ) (out : List ℕ) (spare : ℕ) (next : List ℕ) (left : ℕ) : Type 0 where
  pub none_fits : (string : List ℕ) → sample_at samples X ≡ Short string → suc spare < length string
  pub behind : next ≡ out ++ X ∷ []
  pub same : left ≡ spare

abbrev pub Puts : List Sample → ℕ → List ℕ → ℕ → List ℕ → ℕ → Type 0
Puts samples X out spare next left =
    PutsSample samples X out spare next left ⊎ PutsItself samples X out spare next left

-- what a string becomes with so many symbols to spare; where all have samples that are not longer together, all
-- become terminals
pub record IsExpanded (g : Grammar) (samples : List Sample) (start : ℕ) (Xs Ys : List ℕ) (spare : ℕ) : Type 0 where
  pub expands : Expands g Xs Ys
  pub few : length Ys + spare ≤ length Xs + start
  pub exact : AreTerminals g Ys → length Ys ≡ total samples Xs
  pub whole : All (Has samples) Xs → total samples Xs ≤ start
      → AreTerminals g Ys × (start ≤ spare + total samples Xs)

-- how many symbols more than it has a string may take
abbrev pub IsMost : List Sample → List ℕ → ℕ → Type 0
IsMost samples Xs n = ((n ≡ MOST) × All (Has samples) Xs × (total samples Xs ≤ MOST))
    ⊎ ((n ≡ MOST - length Xs) × (All (Has samples) Xs → total samples Xs ≤ MOST → ⊥))
