use Rattle.std.proofs.Common.{rules}
use Rattle.command_table.proofs.NumberTexts.{another_text, is_number, no_utf8, not_parsed}
use Rattle.command_table.proofs.number.number_in.Goals as goal

pub returns-in_err-ok : goal.returns-in_err-ok
returns-in_err-ok c = search (rules, no_utf8)

pub returns-in_err-number : goal.returns-in_err-number
returns-in_err-number c = search (rules, not_parsed)

pub returns-then-ne : goal.returns-then-ne
returns-then-ne c = search (rules, another_text)

pub returns : goal.returns
returns c = search (rules, is_number)
