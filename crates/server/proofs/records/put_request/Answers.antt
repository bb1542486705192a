use Rattle.std.proofs.Common.{◌≡◌, length}
use borrow.Author.Tests.{eq-eqb}
use Rattle.image.specs.Call.{request_length}
use Rattle.server.proofs.Stored.{request_made}
use Rattle.server.proofs.records.put_request.Goals as goal

-- word by word
pub returns-then-out-eq-REQUEST : goal.returns-then-out-eq-REQUEST
returns-then-out-eq-REQUEST c =
    let whole : length c.args.out.now ≡ request_length = c.if-out-eq-REQUEST.true in
    rw (eq-eqb _ request_length whole)
    (request_made c.args.request c.args.out.now _ _ _ _ _ _ whole c.put_word.ensures c.put_word-then-out-eq-REQUEST.ensures
    c.put_word-then-out-eq-REQUEST-2.ensures c.put_word-then-out-eq-REQUEST-3.ensures c.put_word-then-out-eq-REQUEST-4.ensures
    c.put_word-then-out-eq-REQUEST-5.ensures)
