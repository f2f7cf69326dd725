use Rattle.std.proofs.Common.{◌≡◌, map}
use Rattle.nm_render.proofs.order.ids_of.Given as goal

-- the messages so far are without their ranks
abbrev pub invariant-messages : goal.invariant-messages
invariant-messages l = l.ids.items ≡ map (λ message. message.1) l.yielded
