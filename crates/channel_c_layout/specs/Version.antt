-- The C interface: by which numbers a caller finds out that it was built against another header. Definitions only.
use Rattle.std.specs.Prelude.{ℕ, ◌+◌, ◌*◌}

-- It goes up by one with each change of a struct, of a function, or of what a call answers. GIBSUMAC_VERSION in include/gibsumac.h is the same number.
abbrev pub interface_version : ℕ
interface_version = 3

-- The bytes of a tracker in C's layout on x86-64: the modulation; tuning, six doubles and two marks that fill eight bytes; x and p; envelope; pushed and two
-- sums; metric; a mark; the guard.
abbrev pub tracker_size : ℕ
tracker_size = 8 + (6 * 8 + 8) + 6 * 8 + 36 * 8 + 8 + 3 * 8 + 8 + 8 + 8

-- Those of a channel: setup, two numbers and two marks; a mark; four carriers; four trackers; the tracker in use; a mark; two counts; two marks and a float that fill
-- eight bytes; a mark; the reading. sizeof(gibsumac_channel) is the same number.
abbrev pub channel_size : ℕ
channel_size = (2 * 8 + 8) + 8 + 4 * 8 + 4 * tracker_size + 8 + 8 + 2 * 8 + 8 + 8 + 4 * 8
