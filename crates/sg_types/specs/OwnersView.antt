-- Where an expression stands, as the definitions see it.
use Rattle.sg_types.specs.declared.bindings.Owner.{Owner}
use Rattle.sg_types.specs.declared.bindings.Owner.TheVariants as owner
use Rattle.sg_types.specs.Bindings as plain

abbrev pub owner_of : Owner → plain.Owner
owner_of (owner.Equation op args) = plain.OfEquation op args.now
owner_of (owner.Production left parts) = plain.OfProduction left.now parts.now
owner_of owner.Nothing = plain.OfNothing
