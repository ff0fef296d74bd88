-- What is known of names where no name is unknown.
use Rattle.std.proofs.Common.{◌≡◌, ℕ, Bool, true, false, cond, if◌then◌else◌, List, [], ◌∷◌, length, nat_lt, Option, Some, None, refl, sym, ◌∙◌}
use Rattle.std.specs.Prelude.{is_some, option_and_then}
use Rattle.std.specs.List.{AllByRecursion as Each, position, position_or_len}
use Rattle.sg_kinds.specs.Values.{Bytes}
use Rattle.sg_kinds.proofs.Elementary.{some_there}
use Rattle.sg_ast.specs.declared.name.Name.{Name}
use Rattle.sg_ast.specs.Declarations.{Decl}
use Rattle.sg_ast.specs.FirstFault.{first}
use Rattle.sg_ast.proofs.FirstLaws.{first-flat, first-none}
use Rattle.sg_ast.specs.Written.{IsWritten, HaveWritten}
use Rattle.sg_names.specs.declared.table.Table.{Table}
use Rattle.sg_names.specs.Heads.{is_head, number_in}
use Rattle.sg_names.specs.Names.{phyla_in, nonterminals_in, listings_of, attributes_of, owned, owners, operators_in}
use Rattle.sg_names.specs.Lookups.{phylum_named, nonterminal_named, usable_named, is_whitespace}
use Rattle.sg_names.specs.UnknownName.{unless_known, unknown_at, unknown_name}
use Rattle.sg_names.specs.Uses.{Use, UsesPhylum, decl_uses}
use Rattle.sg_names.proofs.MoreLaws.{phylum_more}
use Rattle.sg_names.proofs.TableMade.{phylum_place, nonterminal_place}
use Rattle.sg_names.specs.Names as text_names
use Rattle.sg_remote.specs.Atoms.{atoms}
use Rattle.sg_remote.specs.Lists.{lists_of}
use Rattle.sg_remote.specs.Longer.{more, names_of}
use Rattle.sg_typing.specs.Bodies.{mismatch_at_decl, first_mismatch}
use Rattle.sg_record.proofs.Lists.{each_weaker}

pub known_is : (b : Bool) (n : Name) → unless_known b n ≡ None → b ≡ true
known_is true n h = refl
known_is false n h = absurd (cc h)

-- no use is unknown
abbrev pub AreKnown : Table → List Use → Type 0
AreKnown t us = Each (λ u. unknown_at t u ≡ None) us

pub decls_known : (t : Table) (ds : List Decl) → unknown_name t ds ≡ None → Each (λ d. AreKnown t (decl_uses t d)) ds
unfolding unknown_name
decls_known t ds h =
    each_weaker (λ d. first (unknown_at t) (decl_uses t d) ≡ None) (λ d. AreKnown t (decl_uses t d)) ds (λ d e. first-none (unknown_at t) (decl_uses t d) e)
    (first-none (λ d. first (unknown_at t) (decl_uses t d)) ds (sym (first-flat (unknown_at t) (decl_uses t) ds) ∙ h))

-- what is known of a declaration where nothing is at fault
abbrev pub IsFine : Table → Decl → Type 0
IsFine t d = AreKnown t (decl_uses t d) × (mismatch_at_decl t d ≡ None) × IsWritten d

pub decls_fine : (t : Table) (ds : List Decl) → unknown_name t ds ≡ None → first_mismatch t ds ≡ None → HaveWritten ds → Each (IsFine t) ds
decls_fine t ds known matched written = fine ds (decls_known t ds known) (first-none (mismatch_at_decl t) ds matched) written
  where
    fine : (es : List Decl) → Each (λ d. AreKnown t (decl_uses t d)) es → Each (λ d. mismatch_at_decl t d ≡ None) es → Each IsWritten es → Each (IsFine t) es
    fine [] a b c = tt
    fine (e ∷ es) a b c = ((a.0, b.0, c.0), fine es a.1 b.1 c.1)

-- a phylum that is used
pub phylum_known : (t : Table) (n : Name) → unknown_at t (UsesPhylum n) ≡ None → (p : ℕ) × (usable_named t n.text ≡ Some p)
phylum_known t n h = some_there (usable_named t n.text) (known_is (is_some (usable_named t n.text)) n h)

pub named_of_usable : (t : Table) (n : Bytes) (p : ℕ) → usable_named t n ≡ Some p → phylum_named t n ≡ Some p
named_of_usable t n p h = by (phylum_named t n) refl h
  where
    white : (q : ℕ) (b : Bool) → (if b then None else Some q) ≡ Some p → Some q ≡ Some p
    white q true e = absurd (cc e)
    white q false e = e

    by : (o : Option ℕ) → phylum_named t n ≡ o → option_and_then (λ q. if is_whitespace t q n then None else Some q) o ≡ Some p → phylum_named t n ≡ Some p
    by None e f = absurd (cc f)
    by (Some q) e f = e ∙ white q (is_whitespace t q n) f

-- numbers of definitions
pub place_is : {A : Type 0} (p : A → Bool) (xs : List A) (k : ℕ) → position p xs ≡ Some k → position_or_len p xs ≡ k
place_is p xs k h = by (nat_lt (position_or_len p xs) (length xs)) h
  where
    by : (b : Bool) → cond b (Some (position_or_len p xs)) None ≡ Some k → position_or_len p xs ≡ k
    by true e = cc e
    by false e = absurd (cc e)

pub phylum_in_heads : (ds : List Decl) (n : Bytes) → phylum_named (names_of ds) n ≡ position (is_head n) (phyla_in ds)
unfolding names_of text_names.names_of
phylum_in_heads ds n =
    let t = text_names.names_of ds in
    phylum_more t (more t (atoms t ds) (lists_of (atoms t ds))) n
    ∙ phylum_place (listings_of (phyla_in ds) ds) (owned (owners (operators_in (phyla_in ds) ds))) (attributes_of (phyla_in ds) (phyla_in ds) ds) (phyla_in ds) (phyla_in ds) n

pub nonterminal_in_heads : (ds : List Decl) (n : Bytes) → nonterminal_named (names_of ds) n ≡ position (is_head n) (nonterminals_in ds)
unfolding names_of text_names.names_of
nonterminal_in_heads ds n = nonterminal_place (attributes_of (nonterminals_in ds) (phyla_in ds) ds) (nonterminals_in ds) n

pub phylum_numbered : (ds : List Decl) (n : Bytes) (p : ℕ) → phylum_named (names_of ds) n ≡ Some p → number_in (phyla_in ds) n ≡ p
phylum_numbered ds n p h = place_is (is_head n) (phyla_in ds) p (sym (phylum_in_heads ds n) ∙ h)
