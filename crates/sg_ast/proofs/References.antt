-- References and targets: their spellings are read, and what is read is spelled.
use Rattle.std.proofs.Common.{◌≡◌, ℕ, ◌^◌, Bool, true, false, List, [], ◌∷◌, ◌++◌, Option, Some, None, refl}
use Rattle.std.specs.Prelude.{cond, ⊤}
use Rattle.std.proofs.lemmas.Bool.{lt-ltb}
use Rattle.sg_text.specs.Lexemes.{Sign, Word}
use Rattle.sg_text.specs.declared.symbols.Symbol.TheVariants.{DollarDollar, Dollar, Dot}
use Rattle.sg_kinds.specs.declared.fault.Position.{Position}
use Rattle.sg_ast.specs.declared.name.Name.{Name}
use Rattle.sg_ast.specs.declared.name.Occurrence.{Occurrence}
use Rattle.sg_ast.specs.declared.name.Occurrence.TheVariants.{Own, Named}
use Rattle.sg_ast.specs.declared.name.Reference.{Reference}
use Rattle.sg_ast.specs.declared.name.Pair.{Pair}
use Rattle.sg_ast.specs.declared.decl.Target.{Target}
use Rattle.sg_ast.specs.declared.decl.Target.TheVariants as target
use Rattle.sg_ast.specs.Spelling.{Mark, Piece, Takes, none, free, kept, sign, named, spell_number, spell_reference, spell_pair, spell_target}
use Rattle.sg_ast.specs.Grouped.{IsOccurrence, IsReference, IsTarget}
use Rattle.sg_ast.specs.Readers.{is_sign, sees, eat, expect, name, number, done, ◌<$>◌}
use Rattle.sg_ast.specs.ReadingNames.{occurrence_number, named_reference, own_reference, pair, refers, named_target, target_of}
use Rattle.sg_ast.proofs.Steps.{◌then◌, ends, opens, closes, either, First, name_first, sign_behind, name_read, number_read, sign_read, sign_at_read, Eaten, took, left, eat_read, dropped, after_name}

-- the number of an occurrence before its dot
number_part : (n : Name) (k : Option ℕ) {ps : List Piece} {ms rest : List Mark} → IsOccurrence (Named n k) → Takes (spell_number k ++ sign Dot ∷ ps) ms rest
    → First occurrence_number k (sign Dot ∷ ps) ms rest
unfolding occurrence_number eat sees number
number_part n None is (free {place = place} {ms = ms} t) = record { mid = (Sign Dot, place) ∷ ms; read = refl; tail = free t }
number_part n (Some k) is (free (free {ms = ms} t)) = record { mid = ms; read = rw (lt-ltb k (2 ^ 63) is) refl; tail = t }

pub named_reads : (n : Name) (k : Option ℕ) (a : Name) {ms rest : List Mark} → IsOccurrence (Named n k) → Takes (spell_number k ++ sign Dot ∷ named a ∷ []) ms rest
    → named_reference n ms ≡ Some (record { of = Named n k; attr = a }, rest)
unfolding named_reference
named_reads n k a is t =
    let t1 = number_part n k is t in
    let t2 = sign_behind Dot t1.tail in
    let t3 = name_first t2.tail in
    rw (t1.read, t2.read, t3.read, ends t3.tail) refl

pub own_reads : (place : Position) (a : Name) {ms rest : List Mark} → Takes (spell_reference (record { of = Own place; attr = a })) ms rest
    → own_reference ms ≡ Some (record { of = Own place; attr = a }, rest)
unfolding own_reference expect name
own_reads place a (kept (free (kept none))) = refl

pub pair_reads : (p : Pair) {ms rest : List Mark} → ⊤ → Takes (spell_pair p) ms rest → ⊤ → pair ms ≡ Some (p, rest)
unfolding pair
pair_reads p is t end =
    let t1 = name_first t in
    let t2 = sign_behind Dot t1.tail in
    let t3 = name_first t2.tail in
    rw (t1.read, t2.read, t3.read, ends t3.tail) refl

pub refers_number : (k : Option ℕ) (ps : List Piece) (ms rest : List Mark) → Takes (spell_number k ++ sign Dot ∷ ps) ms rest → refers ms ≡ true
unfolding sees
refers_number None ps ms rest (free t) = refl
refers_number (Some k) ps ms rest (free t) = refl

-- an attribute as what a name or `$$` goes on as
attribute_by : (o : Occurrence) (a : Name) {ms rest : List Mark} → IsOccurrence o → Takes (spell_reference (record { of = o; attr = a })) ms rest
    → target_of ms ≡ Some (target.Attribute (record { of = o; attr = a }), rest)
unfolding target_of named_target sees name
attribute_by (Own place) a is (kept t) = rw (own_reads place a (kept t)) refl
attribute_by (Named n k) a {rest = rest} is (kept {ms = ms} t) = rw (refers_number k (named a ∷ []) ms rest t, named_reads n k a is t) refl

pub target_by : (t : Target) {ms rest : List Mark} → IsTarget t → Takes (spell_target t) ms rest → refers rest ≡ false → target_of ms ≡ Some (t, rest)
unfolding target_of named_target sees name
target_by (target.Local n) is (kept none) end = rw end refl
target_by (target.Attribute r) is s end = attribute_by r.of r.attr is s

number_by : (n : Name) (b : Bool) (k : Option ℕ) {ms mid rest : List Mark} → Eaten (is_sign Dollar) b ms mid
    → cond b ((λ (n : ℕ × Position). Some n.0) <$> number) (done None) mid ≡ Some (k, rest) → IsOccurrence (Named n k) × Takes (spell_number k) ms rest
number_by n true k {ms = ms} (took first) e =
    let s1 = opens e in
    let s2 = number_read s1.2 in
    closes (λ k rest. IsOccurrence (Named n k) × Takes (spell_number k) ms rest) (s2.0, sign_read Dollar first then dropped s2.1) s1.3
number_by n false k {ms = ms} left e = closes (λ k rest. IsOccurrence (Named n k) × Takes (spell_number k) ms rest) (tt, none) e

pub named_read : (n : Name) {r : Reference} {ms rest : List Mark} → named_reference n ms ≡ Some (r, rest) → IsReference r × Takes (spell_reference r) ((Word n.text, n.place) ∷ ms) rest
unfolding named_reference occurrence_number
named_read n {ms = ms} e =
    let s1 = opens e in
    let o = opens s1.2 in
    let number = number_by n o.0 s1.0 (eat_read (is_sign Dollar) o.2) o.3 in
    let s2 = opens s1.3 in
    let s3 = opens s2.3 in
    closes (λ r rest. IsReference r × Takes (spell_reference r) ((Word n.text, n.place) ∷ ms) rest) (number.0, kept (number.1 then sign_read Dot s2.2 then name_read s3.2)) s3.3

pub own_read : {r : Reference} {ms rest : List Mark} → own_reference ms ≡ Some (r, rest) → IsReference r × Takes (spell_reference r) ms rest
unfolding own_reference
own_read {ms = ms} e =
    let s1 = opens e in
    let s2 = opens s1.3 in
    let s3 = opens s2.3 in
    closes (λ r rest. IsReference r × Takes (spell_reference r) ms rest) (tt, sign_at_read DollarDollar s1.2 then sign_read Dot s2.2 then name_read s3.2) s3.3

pub pair_read : (p : Pair) (ms rest : List Mark) → pair ms ≡ Some (p, rest) → ⊤ × Takes (spell_pair p) ms rest
unfolding pair
pair_read p ms rest e =
    let s1 = opens e in
    let s2 = opens s1.3 in
    let s3 = opens s2.3 in
    closes (λ p rest. ⊤ × Takes (spell_pair p) ms rest) (tt, name_read s1.2 then sign_read Dot s2.2 then name_read s3.2) s3.3

target_named : (n : Name) {t : Target} {ms rest : List Mark} → named_target n ms ≡ Some (t, rest) → IsTarget t × Takes (spell_target t) ((Word n.text, n.place) ∷ ms) rest
unfolding named_target
target_named n {t = t} {ms = ms} {rest = rest} e =
    either (refers ms) e
    (λ passes e.
    let s1 = opens e in
    closes (λ t rest. IsTarget t × Takes (spell_target t) ((Word n.text, n.place) ∷ ms) rest) (named_read n s1.2) s1.3)
    (λ fails e. closes (λ t rest. IsTarget t × Takes (spell_target t) ((Word n.text, n.place) ∷ ms) rest) (tt, kept none) e)

pub target_read : {t : Target} {ms rest : List Mark} → target_of ms ≡ Some (t, rest) → IsTarget t × Takes (spell_target t) ms rest
unfolding target_of
target_read {t = t} {ms = ms} {rest = rest} e =
    either (sees (is_sign DollarDollar) ms) e
    (λ passes e.
    let s1 = opens e in
    closes (λ t rest. IsTarget t × Takes (spell_target t) ms rest) (own_read s1.2) s1.3)
    (λ fails e.
    let s1 = opens e in
    let s2 = target_named s1.0 s1.3 in
    (s2.0, after_name s1.2 s2.1))
