-- A chip that keeps time, to be looked at tick by tick.
use Rattle.std.specs.Prelude.{false, replicate}
use Rattle.divider.specs.Divider as divider
use Rattle.chip.specs.declared.Chip.{Chip}

-- Plate-room examples: a chip just released on the 32.768 kHz base. It shows Sunday 1 January of year 00, 00:00:00, binary and 24 hours.
unfoldable pub released : Chip
released =
    record {
      regs =
          record {
            clock = record { seconds = 0; minutes = 0; hours = 0; weekday = 1; date = 1; month = 1; year = 0 };
            alarm = record { seconds = 0; minutes = 0; hours = 0 };
            a = 0x26;
            b = 0x06;
            pf = false;
            af = false;
            uf = false;
            vrt = false;
            divider = divider.fresh;
            pending = false;
            resetlow = false;
            pslow = false;
            used = false;
          };
      ram = replicate 50 0;
    }
