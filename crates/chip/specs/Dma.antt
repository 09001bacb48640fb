-- The DMA that a step asks for, by the step's own way.
use Rattle.std.specs.Prelude.{true, false, Option, Some, None}
use Rattle.machine.specs.declared.Step.{Step}
use Rattle.machine.specs.Apart.{on_dma}
use Rattle.chip.specs.declared.Dma.{Dma}

-- a DMA write brings its byte in, and a DMA read takes one out; any other step asks for none
abbrev pub dma_in : Step → Option Dma
dma_in s =
    on_dma s (λ w x. Some (record { inward = true; side = w; byte = x })) (λ w. Some (record { inward = false; side = w; byte = 0 })) None
