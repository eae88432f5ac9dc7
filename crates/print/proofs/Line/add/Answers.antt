-- What was copied behind the front stands there.
use Rattle.std.proofs.Common.{refl, rules}
use Rattle.print.proofs.Told.{added}
use Rattle.print.proofs.Line.add.Goals as goal

pub returns-clause-text : goal.returns-clause-text
returns-clause-text c = added c.args.self.now.bytes c.args.self.now.length c.args.bytes.now (search rules) c.copy.ensures refl
