use Rattle.model.specs.Values.{table_of}
use Rattle.model.proofs.GivingBack.{tables_are_sound}
use Rattle.audit.proofs.Auditing.{agree}
use Rattle.audit.proofs.audits.audit.Goals as goal

pub returns-clause-law : goal.returns-clause-law
returns-clause-law g c =
    let t = c.args.model.now.table in
    let one = c.run_new-first.ensures in
    let two = c.run_new-second.ensures in
    let r = c.run_new-first.result in
    let q = c.run_new-second.result in
    record {
      first_law = one.law;
      second_law = two.law;
      first_holds = one.holds;
      second_holds = two.holds;
      agree = agree (table_of t) (tables_are_sound t) (g.S.Store.frame c.args.first) (g.S.Store.sound c.args.first) c.args.first_calls.now r.calls (g.T.Store.frame c.args.second) c.args.second_calls.now q.calls c.args.state c.args.code r.holds q.holds one.holds two.holds;
    }
