-- What two operands are compared by, as the table of operators has it.
use Rattle.fx_typing.specs.Operators as operators
use Rattle.fx_node_typing.specs.declared.operators.Compared.{Compared}
use Rattle.fx_node_typing.specs.declared.operators.Compared.TheVariants.{Numbers, Texts, Booleans}
use Rattle.fx_node_typing.specs.declared.operators.Compared.TheVariants.{Dates}

abbrev pub compared_view : Compared → operators.Compared
compared_view Numbers = operators.as_numbers
compared_view Texts = operators.as_texts
compared_view Booleans = operators.as_booleans
compared_view Dates = operators.as_dates
