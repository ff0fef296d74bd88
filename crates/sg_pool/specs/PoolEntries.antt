-- The entries of a pool.
use Rattle.std.specs.Prelude.{ℕ, Bool, false, ◌&&◌, List, [], ◌++◌, nat_eq, bytes_eq}
use Rattle.std.specs.Hash as fed
use Rattle.sg_kinds.specs.Values.{Value, Truth, Number, Chars, Fault, same_truth, same_number, fault_number}
use Rattle.sg_pool.specs.Pools.{tree_over}
pub use Rattle.sg_pool.specs.declared.entry.PoolEntry.{PoolEntry}
use Rattle.sg_pool.specs.declared.entry.PoolEntry.TheVariants as entry

-- the value of an entry, by the values that the pool has
abbrev pub entry_value : List Value → PoolEntry → Value
entry_value pool (entry.Bool b) = Truth b
entry_value pool (entry.Int z) = Number z
entry_value pool (entry.Text s) = Chars s
entry_value pool (entry.Tree op kids) = tree_over pool op kids
entry_value pool (entry.Fault kind) = Fault kind

-- the numbers of its children
abbrev pub kid_numbers : PoolEntry → List ℕ
kid_numbers (entry.Tree op kids) = kids
kid_numbers e = []

-- whether two entries are the same
abbrev pub same_entry : PoolEntry → PoolEntry → Bool
same_entry (entry.Bool x) (entry.Bool y) = same_truth x y
same_entry (entry.Int x) (entry.Int y) = same_number x y
same_entry (entry.Text x) (entry.Text y) = bytes_eq x y
same_entry (entry.Tree p xs) (entry.Tree q ys) = nat_eq p q && bytes_eq xs ys
same_entry (entry.Fault x) (entry.Fault y) = nat_eq (fault_number x) (fault_number y)
same_entry x y = false

-- what is hashed of an entry
abbrev pub entry_writes : PoolEntry → List (List ℕ)
entry_writes (entry.Bool b) = fed.u8 0 ++ fed.bool b
entry_writes (entry.Int z) = fed.u8 1 ++ fed.i64 z
entry_writes (entry.Text s) = fed.u8 2 ++ fed.slice fed.u8 s
entry_writes (entry.Tree op kids) = fed.u8 3 ++ (fed.u32 op ++ fed.slice fed.usize kids)
entry_writes (entry.Fault kind) = fed.u8 4 ++ fed.u8 (fault_number kind)
