use Rattle.gtp_session.proofs.stepping.Runs.{authors_engines, controllers_lines, defaults_tables, each_line}
use Rattle.gtp_session.proofs.stepping.Runs.{replies_given, tables_tables}
use Rattle.gtp_session.proofs.laws.authors_engines_are_engines.Goals as goal

pub returns-clause-lines : goal.returns-clause-lines
returns-clause-lines c = each_line

pub returns-clause-engines : goal.returns-clause-engines
returns-clause-engines c = authors_engines

pub returns-clause-replies : goal.returns-clause-replies
returns-clause-replies c = replies_given

pub returns-clause-defaults : goal.returns-clause-defaults
returns-clause-defaults c = defaults_tables

pub returns-clause-tables : goal.returns-clause-tables
returns-clause-tables c = tables_tables

pub returns-clause-commands : goal.returns-clause-commands
returns-clause-commands c = controllers_lines
