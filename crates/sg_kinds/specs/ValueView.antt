-- A value of the code, one layer deep: its children are seen as values.
use Rattle.sg_kinds.specs.Values.{Value, Truth, Number, Chars, Tree, Fault, row_of}
use Rattle.sg_kinds.specs.declared.value.ValueNode.{ValueNode}
use Rattle.sg_kinds.specs.declared.value.ValueNode.TheVariants as node

abbrev pub value_of_node : ValueNode → Value
value_of_node (node.Bool b) = Truth b
value_of_node (node.Int z) = Number z
value_of_node (node.Text s) = Chars s
value_of_node (node.Tree op kids) = Tree op (row_of kids.items)
value_of_node (node.Fault kind) = Fault kind
