use borrow.Author.Rules.{rules}
use native.Mathlib.Omega.{arith}
use mathlib.Core.Path.{refl, ap}
use Rattle.commands.specs.Book.{size_of}
use Rattle.commands.proofs.Writing.{wrote_add, wrote_fit, wrote_read, wrote_trim}
use Rattle.commands.proofs.write_command.Goals as goal

pub put_head-requires : goal.put_head-requires
put_head-requires c = omega (arith, ap size_of c.in-Add.is)

pub put-requires : goal.put-requires
put-requires c = omega (arith, ap size_of c.in-Add.is)

pub put_head-requires-in-Fit : goal.put_head-requires-in-Fit
put_head-requires-in-Fit c = omega (arith, ap size_of c.in-Fit.is)

pub put-requires-in-Fit : goal.put-requires-in-Fit
put-requires-in-Fit c = omega (arith, ap size_of c.in-Fit.is)

pub put-requires-in-Fit-2 : goal.put-requires-in-Fit-2
put-requires-in-Fit-2 c = omega (arith, ap size_of c.in-Fit.is)

pub put_head-requires-in-Read : goal.put_head-requires-in-Read
put_head-requires-in-Read c = omega (arith, ap size_of c.in-Read.is)

pub put_head-requires-in-Trim : goal.put_head-requires-in-Trim
put_head-requires-in-Trim c = omega (arith, ap size_of c.in-Trim.is)

pub put-requires-in-Trim : goal.put-requires-in-Trim
put-requires-in-Trim c = omega (arith, ap size_of c.in-Trim.is)

pub returns-in-Add : goal.returns-in-Add
returns-in-Add c = wrote_add c.args.out.now c.args.at c.requires c.in-Add.is c.put_head.ensures c.put.ensures

pub returns-in-Fit : goal.returns-in-Fit
returns-in-Fit c = wrote_fit c.args.out.now c.args.at c.requires c.in-Fit.is c.put_head-in-Fit.ensures c.put-in-Fit.ensures c.put-in-Fit-2.ensures

pub returns-in-Read : goal.returns-in-Read
returns-in-Read c = wrote_read c.args.out.now c.args.at c.requires c.in-Read.is c.put_head-in-Read.ensures

pub returns-in-Trim : goal.returns-in-Trim
returns-in-Trim c = wrote_trim c.args.out.now c.args.at c.requires c.in-Trim.is (search rules) refl c.put_head-in-Trim.ensures c.put-in-Trim.ensures
