use Rattle.std.proofs.Common.{◌≡◌, ◌∙◌, sym, ap}
use Rattle.sg_remote.specs.Bearing.{opened}
use Rattle.sg_remote.specs.Keys.{key_of, list_of}
use Rattle.sg_remote.proofs.Keyed.{pair-decides}
use Rattle.sg_remote.proofs.Knowing.{known_is, known_more, list_of_key}
use Rattle.sg_remote.proofs.bare.is_open.Goals as goal

pub returns-in-Some-clause-open : goal.returns-in-Some-clause-open
returns-in-Some-clause-open c =
    let is : c.as_slice.result.now ≡ key_of c.args.list.now = c.as_slice.ensures.value ∙ c.in_ok-key.ensures in
    let found = rw is at c.in-Some.ensures.value in
    let flags : c.deref.result.now ≡ opened c.args.names.now c.args.list.now =
    c.deref.ensures.value ∙ known_is _ pair-decides c.args.names.now c.args.known.now.entries c.args.list.now c.in-Some.flags.now c.requires (sym found) in
    rw (flags, c.phylum.view_is) at c.flag.ensures

pub returns-clause-known : goal.returns-clause-known
returns-clause-known c =
    let flags = c.in_ok-flags.ensures ∙ ap (opened c.args.names.now) (sym (ap list_of c.in_ok-key.ensures ∙ list_of_key c.args.list.now)) in
    rw c.in_ok-insert.ensures.entries (known_more _ pair-decides c.args.names.now c.args.known.now.entries c.in_ok-key.key c.in_ok-flags.flags c.requires flags)
