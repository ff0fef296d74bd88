-- When indexes tell what the names of a table mean.
use Rattle.std.specs.Prelude.{◌≡◌, ℕ, Bool, ◌&&◌, nat_lt, List, true, length}
use Rattle.std.specs.List.{list_all}
use Rattle.sg_kinds.specs.Values.{Bytes}
use Rattle.sg_kinds.specs.declared.spec.Phylum.{Phylum}
use Rattle.sg_kinds.specs.declared.spec.Operator.{Operator}
use Rattle.sg_names.specs.declared.index.Index.{Index}
use Rattle.sg_names.specs.declared.table.Table.{Table}
use Rattle.sg_names.specs.declared.table.Callable.{Callable}
use Rattle.sg_names.specs.Lookups.{phylum_named, nonterminal_named, callable}
use Rattle.sg_names.specs.Meaning.{meaning}

-- places among attributes, locals and occurrences are numbers of 32 bits
abbrev pub is_short : {A : Type 0} → List A → Bool
is_short xs = nat_lt (length xs) 4294967295

abbrev pub is_numbered : Table → Bool
is_numbered t = list_all (λ (x : Phylum). is_short x.attrs) t.phyla
    && list_all (λ (o : Operator). is_short o.args && is_short o.locals) t.ops

pub record IsIndexed (t : Table) (by_phylum : Index ℕ) (by_nonterminal : Index ℕ)
    (by_callable : Index Callable) : Type 0 where
  pub phyla : (n : Bytes) → meaning by_phylum n ≡ phylum_named t n
  pub nonterminals : (n : Bytes) → meaning by_nonterminal n ≡ nonterminal_named t n
  pub callables : (n : Bytes) → meaning by_callable n ≡ callable t n
  pub numbered : is_numbered t ≡ true
