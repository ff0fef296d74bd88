-- Where the code's expressions stand, as the definitions see it.
use Rattle.sg_names.specs.Uses as plain
use Rattle.sg_uses.specs.declared.known.Site.{Site}
use Rattle.sg_uses.specs.declared.known.Site.TheVariants.{Operator, Production, Elsewhere}

abbrev pub site_of : Site → plain.Site
site_of (Operator op) = plain.InOperator op
site_of (Production left parts) = plain.InProduction left.now parts.now
site_of Elsewhere = plain.Elsewhere
