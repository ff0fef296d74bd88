use Rattle.sg_forest.proofs.nodes.add_root.Goals as goal

pub link_kids-requires-clause-live : goal.link_kids-requires-clause-live
link_kids-requires-clause-live g c = λ k kid listed. c.requires.live k kid (rw c.as_slice.ensures.value at listed)
