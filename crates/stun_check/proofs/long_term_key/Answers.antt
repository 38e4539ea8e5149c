-- `stun_check::long_term_key` meets its contract: five parts, by the law of parts.
use Rattle.stun_check.proofs.Parts.{keyed_by}
use Rattle.stun_check.proofs.long_term_key.Goals as goal

pub returns : goal.returns
returns c =
    keyed_by c.args.username.now c.args.realm.now c.args.password.now c.new.ensures c.update.ensures c.update-a.ensures
    c.update-2.ensures c.update-b.ensures c.update-3.ensures c.finish.ensures
