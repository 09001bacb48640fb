-- What a step or a burst over a lent buffer hands back, and the DMA that a step asks for.
pub mod Lent
pub mod Dma
