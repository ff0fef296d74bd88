-- What a text is read as: the value of a saved file, or the first fault.
use Rattle.std.specs.Prelude.{◌≡◌, ◌⊎◌, ℕ, ◌<◌, ◌≤◌}
use Rattle.sg_kinds.specs.Values.{Bytes, Value}
use Rattle.sg_kinds.specs.Terms.{nodes_of, height_of}
use Rattle.sg_kinds.specs.Fits.{Fits}
use Rattle.sg_kinds.specs.Plain.{plain}
use Rattle.sg_kinds.specs.declared.spec.Spec.{Spec}
use Rattle.sg_saved_form.specs.Files.{Raw, IsRaw, IsNoFile, file_of}
use Rattle.sg_saved.specs.Spelling.{raw_of, saved}
use Rattle.sg_saved.specs.Misfits.{IsMisfit}

pub data Opened : Type 0 where
  FormAt : ℕ → Opened
  PhylumAt : ℕ → Opened
  TooLarge : ℕ → ℕ → Opened
  Holds : Value → Opened

-- the limits of a buffer's term
abbrev pub most_nodes : ℕ
most_nodes = 65536

abbrev pub most_depth : ℕ
most_depth = 1024

-- the bytes are the file of a value of the root phylum, whose term has so many nodes and is so deep
pub record IsFileOf (spec : Spec) (bytes : Bytes) (v : Value) (n d : ℕ) : Type 0 where
  pub is : IsRaw (raw_of spec v)
  pub same : bytes ≡ saved spec v
  pub fits : Fits spec (plain spec v spec.root) spec.root
  pub nodes : nodes_of (plain spec v spec.root) ≡ n
  pub depth : height_of (plain spec v spec.root) ≡ d

-- the bytes are a file whose first misfit is at a place
pub record HasMisfit (spec : Spec) (bytes : Bytes) (at : ℕ) : Type 0 where
  pub raw : Raw
  pub is : IsRaw raw
  pub same : bytes ≡ file_of raw
  pub misfit : IsMisfit spec raw at

-- what the bytes are: no file, a file with a misfit, a file whose term is over a limit, or one that is in the limits
abbrev pub IsOpened : Spec → Bytes → Opened → Type 0
IsOpened spec bytes (FormAt at) = IsNoFile bytes at
IsOpened spec bytes (PhylumAt at) = HasMisfit spec bytes at
IsOpened spec bytes (TooLarge nodes depth) = (v : Value) × IsFileOf spec bytes v nodes depth
    × ((most_nodes < nodes) ⊎ (most_depth < depth))
IsOpened spec bytes (Holds v) = (nodes : ℕ) × (depth : ℕ) × IsFileOf spec bytes v nodes depth × (nodes ≤ most_nodes)
    × (depth ≤ most_depth)
