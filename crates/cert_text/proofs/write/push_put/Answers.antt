use Rattle.cert_text.proofs.Writing.{put_done}
use Rattle.cert_text.proofs.write.push_put.Goals as goal

pub returns : goal.returns
returns c = put_done c.args.out.now.items c.extend_from_slice.new.self.items c.push_number.new.out.items c.push_numbers.new.out.items c.push.new.self.items c.args.put.now.number c.args.put.now.ballot
    c.in_ok-extend_from_slice.ensures.items c.in_ok-push_number.ensures.number (rw (← c.as_slice.ensures) c.in_ok-push_numbers.ensures.numbers) c.in_ok-push.ensures.items
