use Rattle.std.proofs.Common.{sym, ap, subst, ◌∙◌, ◌++◌, ◌∷◌, []}
use Rattle.std.specs.Prelude.{IfOk}
use Rattle.sg_patterns.specs.Readers.{Fed}
use Rattle.sg_patterns.proofs.Defaults.{low-default}
use Rattle.sg_patterns.proofs.reader.Reader.feed_low.Goals as goal

pub returns-in_ok-push-in_default : goal.returns-in_ok-push-in_default
returns-in_ok-push-in_default c m outer f negated rs h =
    let pushed = c.in_ok-push-in_default.ensures.items in
    subst (λ o. IfOk c.feed_next.result (λ more. Fed o more c.feed_next.new.self)) (sym (low-default outer f negated rs c.args.low c.args.byte c.args.kind c.in_default.not-Dash))
    (c.feed_next.ensures m outer f negated (rs ++ (c.args.low, c.args.low) ∷ []) (record { reads = record { at_mode = h.reads.at_mode; outside = h.reads.outside; inside = h.reads.inside; made = h.reads.made }; way = h.way; so_far = pushed ∙ ap (λ x. x ++ (c.args.low, c.args.low) ∷ []) h.so_far }))
