-- The parts of each kind, one behind the other.
use Rattle.std.proofs.Common.{◌≡◌, ℕ, Bool, List, ◌++◌, ap, ◌∙◌, append_assoc}
use Rattle.std.specs.Prelude.{flat_map}
use Rattle.sg_kinds.specs.Instances.{below}
use Rattle.sg_kinds.specs.declared.spec.Spec.{Spec}
use Rattle.sg_useless.specs.Reach.{flag}
use Rattle.sg_useless.specs.Uses.{numbered, is_shown, operator_uses, all_operator_uses}
use Rattle.sg_useless.specs.Useless.{nonterminals, is_entered, unentered_parts, unentered, unseen_parts, unseen}

same_tests : (f g : ℕ → Bool) → ((n : ℕ) → f n ≡ g n) → f ≡ g
same_tests f g h = λ i n. h n i

pub unentered_by : (spec : Spec) (flags : List Bool) (count : ℕ) → ((n : ℕ) → flag flags n ≡ is_entered spec n) → count ≡ nonterminals spec.productions
    → flat_map (unentered_parts (flag flags)) (below count) ≡ unentered spec
unentered_by spec flags count told is =
    ap (λ (n : ℕ). flat_map (unentered_parts (flag flags)) (below n)) is
    ∙ ap (λ (test : ℕ → Bool). flat_map (unentered_parts test) (below (nonterminals spec.productions))) (same_tests (flag flags) (is_entered spec) told)

pub unseen_by : (spec : Spec) (flags : List Bool) → ((p : ℕ) → flag flags p ≡ is_shown spec p) → numbered (unseen_parts spec (flag flags)) 0 spec.ops ≡ unseen spec
unseen_by spec flags told = ap (λ (test : ℕ → Bool). numbered (unseen_parts spec test) 0 spec.ops) (same_tests (flag flags) (is_shown spec) told)

-- what is used, by the flags of the phyla that stand in a document
pub used_by : (spec : Spec) (flags : List Bool) → ((p : ℕ) → flag flags p ≡ is_shown spec p)
    → numbered (operator_uses spec (flag flags)) 0 spec.ops ≡ all_operator_uses spec
unfolding all_operator_uses
used_by spec flags told = ap (λ (test : ℕ → Bool). numbered (operator_uses spec test) 0 spec.ops) (same_tests (flag flags) (is_shown spec) told)

pub five_behind : {X : Type 0} (a b c d e p q r s : List X) → p ≡ a ++ b → q ≡ p ++ c → r ≡ q ++ d → s ≡ r ++ e → s ≡ a ++ (b ++ (c ++ (d ++ e)))
five_behind a b c d e p q r s is_p is_q is_r is_s =
    is_s ∙ ap (λ l. l ++ e) (is_r ∙ ap (λ l. l ++ d) (is_q ∙ ap (λ l. l ++ c) is_p))
    ∙ append_assoc (a ++ b ++ c) d e ∙ append_assoc (a ++ b) c (d ++ e) ∙ append_assoc a b (c ++ (d ++ e))
