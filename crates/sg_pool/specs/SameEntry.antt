-- The computed equality of entries is their equality.
use Rattle.std.specs.Prelude.{◌≡◌, refl, true, nat_eq, bytes_eq}
use Rattle.std.specs.Bool.{Decides}
use Rattle.std.specs.Cmp.{IsPartialEquivalence, IsEquivalence, partial_equiv_from_equiv, decided}
use Rattle.std.specs.Hash.{Alike, same_Alike}
use Rattle.std.proofs.lemmas.Slice.Eq.{bytes_eq-Decides}
use mathlib.Core.Path.{ap, subst}
use Rattle.sg_pool.specs.PoolEntries.{PoolEntry, same_entry, entry_writes}
use Rattle.sg_pool.specs.declared.entry.PoolEntry.TheVariants as entry
use Rattle.sg_kinds.specs.Values.{fault_number}
use Rattle.sg_kinds.specs.SameValue.{both, nat_is, nat_same, number_is, number_same, truth_is, truth_same, fault_is}

pub entry_is : (x y : PoolEntry) → same_entry x y ≡ true → x ≡ y
entry_is (entry.Bool x) (entry.Bool y) h = ap entry.Bool (truth_is x y h)
entry_is (entry.Int x) (entry.Int y) h = ap entry.Int (number_is x y h)
entry_is (entry.Text x) (entry.Text y) h = ap entry.Text ((bytes_eq-Decides x y).0 h)
entry_is (entry.Tree p xs) (entry.Tree q ys) h = let b = both (nat_eq p q) (bytes_eq xs ys) h in cc (nat_is p q b.0, (bytes_eq-Decides xs ys).0 b.1)
entry_is (entry.Fault x) (entry.Fault y) h = ap entry.Fault (fault_is x y h)
entry_is x y h = cc

pub entry_same : (x : PoolEntry) → same_entry x x ≡ true
entry_same (entry.Bool x) = truth_same x
entry_same (entry.Int x) = number_same x
entry_same (entry.Text x) = (bytes_eq-Decides x x).1 refl
entry_same (entry.Tree p xs) = rw (nat_same p) ((bytes_eq-Decides xs xs).1 refl)
entry_same (entry.Fault x) = nat_same (fault_number x)

pub entry_decides : (x y : PoolEntry) → Decides (same_entry x y) (x ≡ y)
entry_decides x y = (entry_is x y, λ e. subst (λ z. same_entry x z ≡ true) e (entry_same x))

pub entry_equal : IsEquivalence same_entry
entry_equal = decided same_entry entry_decides

pub entry_partial : IsPartialEquivalence same_entry
entry_partial = partial_equiv_from_equiv entry_equal

pub entry_alike : Alike same_entry entry_writes
entry_alike = same_Alike entry_writes entry_decides
